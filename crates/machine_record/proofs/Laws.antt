-- Laws by subject.
pub mod Entries
pub mod Lanes
pub mod Has
