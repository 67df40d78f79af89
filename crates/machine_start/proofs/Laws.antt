-- Laws by subject.
pub mod Programs
pub mod Start
pub mod Runs
pub mod Files
