-- The C interface. Calls: a run from the bytes of a kernel file and a schedule to the record; Interface: the seven
-- calls; Examples: a kernel through each of them.
pub mod Calls
pub mod Interface
pub mod Examples
