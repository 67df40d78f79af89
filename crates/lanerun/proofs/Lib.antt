-- Laws of a run that is told move by move.
pub mod Laws
