-- The machines: Entries pending lists, Marks the marks in them, Listed lists with their marks, Rules what tells the
-- machines apart, Step one lane's move, Schedule rows of moves, Moves their bytes, State states and runs over
-- schedules, View what is compared of a run, Run answers from the bytes of a kernel file, Shape the bounds of a state.
-- Examples computes turns and runs, PsoExamples those of the pso machine, AnswerExamples refusals, ViewExamples what is
-- compared.
pub mod Entries
pub mod Marks
pub mod Listed
pub mod Rules
pub mod Step
pub mod Schedule
pub mod Moves
pub mod State
pub mod View
pub mod Run
pub mod Shape
pub mod Examples
pub mod AnswerExamples
pub mod ViewExamples
pub mod PsoExamples
