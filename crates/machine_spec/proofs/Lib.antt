-- What is proved of the machines: small laws by subject, the level that each runs, lists with their marks.
pub mod Laws
pub mod Levels
pub mod Marks
