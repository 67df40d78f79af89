-- Ordered: the records of a file in the order of its lanes. Walks: the order while the lanes are walked.
-- Reach: what a place of the order reaches.
pub mod Ordered
pub mod Walks
pub mod Reach
