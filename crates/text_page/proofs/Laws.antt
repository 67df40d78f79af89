-- Laws by subject.
pub mod Columns
pub mod Pages
pub mod Lines
pub mod Ranks
pub mod Given
pub mod Written
