-- What is proved of sheets: small laws by subject, then the theorems.
pub mod Laws
pub mod Fitting
pub mod Level0
pub mod ReadBack
pub mod Codes
pub mod Before
pub mod PlacedLanes
pub mod Sizes
pub mod SmallBytes
pub mod Answers
