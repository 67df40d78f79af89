-- Checks: checks 5 to 8 and 12, where 1 to 4 have passed.
-- Size: how many bytes a file's rows take.
-- Order: the records of a kernel in the order of its lanes.
pub mod Checks
pub mod Size
pub mod Order
