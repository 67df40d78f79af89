-- The schedules that the code of `running` can run: Named what a legal schedule names, Ranges the operands of a
-- machine's instructions, Answered what is known of a run's end, Reached the lanes that its moves find ready, Fitting
-- that each answer fits a state record.
-- Laws of runs from the rows of a program.
pub mod Named
pub mod Ranges
pub mod Answered
pub mod Reached
pub mod Fitting
pub mod Laws
