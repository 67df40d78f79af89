-- What the proofs of the code cite.
-- none
pub mod Laws
