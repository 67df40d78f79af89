-- Laws: Runs a schedule's moves.
-- Laws by subject.
pub mod Runs
pub mod Legal
pub mod Below
pub mod Finished
