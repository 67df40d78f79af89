-- The chains of a kernel file as rows, from the order of its records.
pub mod Chains
pub mod Records
