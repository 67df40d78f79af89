-- Words: the words of a run's text. Lanes, States: the text of a state, from a record's bytes and from the answer of a
-- run. Names: an instruction on a machine. Places, Moves: the line of a move, from records' bytes; Turns: from what the
-- machine does. Runs: the lines of a run on a kernel file, and its end. Examples from bytes.
pub mod Words
pub mod Lanes
pub mod States
pub mod Names
pub mod Places
pub mod Moves
pub mod Turns
pub mod Runs
pub mod StateExamples
pub mod MoveExamples
