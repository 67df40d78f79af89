-- Laws of printing a kernel file, and how much of the file and of a buffer is enough.
pub mod Laws
pub mod Enough
