-- Small laws by subject.
pub mod Place
pub mod Move
pub mod Few
pub mod Lines
pub mod Read
