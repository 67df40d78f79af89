-- Proofs of the crate: Laws.
-- Laws of the tests of a run.
pub mod Laws
