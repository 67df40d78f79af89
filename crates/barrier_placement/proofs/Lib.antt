-- What is proved of placement, besides that each function meets its contract: small laws by subject, then the theorems.
pub mod Laws
pub mod Covered
pub mod Needed
pub mod Unique
pub mod Correct
pub mod SheetCorrect
