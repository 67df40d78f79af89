-- Laws of moves of a lane.
-- Proofs of the crate: Laws.
pub mod Laws
