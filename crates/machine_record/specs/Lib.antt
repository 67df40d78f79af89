-- Places: where the fields of the state record lie. Lanes, Record: its bytes; SmallCells, SmallStates: what the code
-- can write of them. Fields: what a record says.
pub mod Places
pub mod Lanes
pub mod SmallCells
pub mod Record
pub mod SmallStates
pub mod Fields
