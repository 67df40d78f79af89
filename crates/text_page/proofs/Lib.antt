-- Laws of columns, lines and pages. Where: where each line stands; Read: what a reader finds in a line; Fields: each
-- text fits its column; Theorem: what is claimed of the pages.
pub mod Laws
pub mod Where
pub mod Read
pub mod Fields
pub mod Theorem
