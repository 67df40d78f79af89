-- What is proved of a run's text: it is told of the run, for every accepted file; laws that the code's proofs cite.
pub mod Laws
pub mod Told
pub mod ToldMoves
pub mod Runs
