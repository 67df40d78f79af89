-- The laws that the proofs of this crate and of the layers above cite, and what the checks give a lane.
pub mod Laws
pub mod Bounded
pub mod Disciplined
