-- Sheet: the sheet of a file at a level; Chained: the rows of its chains in a buffer.
pub mod Sheet
pub mod Chained
