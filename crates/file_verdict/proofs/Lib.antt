-- Laws of the verdict.
pub mod Laws
