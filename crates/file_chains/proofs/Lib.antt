-- What the order of a file's records says of its lanes, for the layers above.
-- Laws that the code's proofs cite.
pub mod Laws
