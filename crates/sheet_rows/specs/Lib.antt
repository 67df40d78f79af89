-- Rows: the fields of an instruction, and where the rows of each lane lie; Lanes: a lane's operations as rows;
-- Eight: bytes that are copied into a sheet.
pub mod Rows
pub mod Lanes
pub mod Eight
