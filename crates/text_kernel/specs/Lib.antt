-- What is printed of a kernel file: `printed` of text_listing, the listing; Printed: the pages.
pub mod Printed
