-- The lines of a listing, and examples.
-- The text of a sheet, and of a refusal.
pub mod Lays
pub mod Line
pub mod LineExamples
pub mod Examples
pub mod Listing
pub mod Ones
