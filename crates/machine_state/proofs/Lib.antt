-- Laws: laws of the borrowed array.
-- Proofs of the crate: Laws.
pub mod Laws
