-- What is proved of the state record: its length, and what is read back from it; laws that the code's proofs cite.
pub mod LaneSizes
pub mod Laws
pub mod Sizes
pub mod ReadBack
