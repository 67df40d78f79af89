-- Columns: a line of 32 characters; Lines: the lines of a kernel's instructions; Pages: lines on pages, and the pages
-- of a kernel; Given: what the code lays them from; PageClaims: what is claimed of them; Examples: lines and pages by
-- computation.
pub mod Columns
pub mod Lines
pub mod Pages
pub mod Given
pub mod PageClaims
pub mod Examples
