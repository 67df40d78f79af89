-- Small laws by subject: the state's lanes, pending lists, and where things stand in a sheet.
pub mod Lanes
pub mod Pending
pub mod Sheets
