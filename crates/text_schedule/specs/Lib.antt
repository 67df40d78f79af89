-- Place: where the reader stands in a line, after one more byte and at its end.
-- A schedule as text.
pub mod Place
pub mod Text
pub mod Examples
