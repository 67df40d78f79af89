-- What is proved of lines: small laws.
-- Laws of the text of a sheet.
pub mod Laws
pub mod SheetListing
pub mod Sizes
