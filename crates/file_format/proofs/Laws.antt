-- Laws about the definitions of specs/, one file for each.
pub mod Search
pub mod Named
pub mod Rules
pub mod Linkage
pub mod Targets
pub mod Accepted
pub mod Lanes
pub mod Held
pub mod Stored
