-- Runs: schedules that the code can run, and its answer.
-- The lengths of the lanes' programs.
pub mod Runs
pub mod Counts
