-- Laws: Checks the checks one after the other.
-- Laws: Copied rows that are copied.
-- Laws: Order the records of a file in the order of its lanes.
pub mod Checks
pub mod Copied
pub mod Order
