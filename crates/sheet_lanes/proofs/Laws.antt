-- Laws by subject.
pub mod Put
pub mod Begins
pub mod Lane
pub mod Level
pub mod Rows
