-- Small laws by subject.
pub mod Places
pub mod Entry
pub mod Names
pub mod Moves
pub mod Lines
pub mod Ends
