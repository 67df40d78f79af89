-- Small laws by subject.
pub mod Moves
pub mod Every
pub mod Finished
pub mod Marks
