-- The sheets. Layout: a lane with its barriers; Levels: which of them a level keeps; Bytes: what is written, and what
-- lowering answers; Read: the instructions that bytes stand for; Code: the kinds of operation code; Items: a lane as
-- placement sees it.
pub mod Layout
pub mod Levels
pub mod Bytes
pub mod Put
pub mod Read
pub mod Code
pub mod Items
-- the operation codes in a sheet, and the barriers before each operation
pub mod Codes
pub mod Before
pub mod Examples
