-- Laws that name nothing of the project, by subject: Bools tests, Numbers numbers and tables of them, Lists what stands
-- at a position of a list, Parts parts of lists and runs of stores, Bytes the bytes of numbers and of rows.
pub mod Bools
pub mod Numbers
pub mod Lists
pub mod Parts
pub mod Bytes
