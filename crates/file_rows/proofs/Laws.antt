-- Laws by subject.
pub mod Holds
pub mod Lane
pub mod Records
pub mod Row
pub mod Whole
