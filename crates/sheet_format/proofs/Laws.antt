-- Small laws by subject.
pub mod Cells
pub mod Rows
pub mod Codes
pub mod Written
pub mod Put
pub mod Part
pub mod Targets
pub mod Turn
pub mod Aim
pub mod Loaded
