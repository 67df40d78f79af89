-- Laws by subject: States the borrowed array, Writes a lane's writes, Lanes its lanes, Searches a pending list looked
-- through, Rules what the machines permit.
pub mod States
pub mod Writes
pub mod Lanes
pub mod Searches
pub mod Rules
