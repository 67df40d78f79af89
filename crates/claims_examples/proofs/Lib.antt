-- The theorem on the table of examples, the search that two of its rows need, and what level 2 leaves out on one lane.
pub mod Never
pub mod Examples
pub mod LeftOut
