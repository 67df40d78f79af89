-- Laws of the walk along the lanes, of the order that it leaves, and of the targets that a record reaches.
pub mod Tally
pub mod Walks
pub mod Lanes
pub mod Places
pub mod Reach
