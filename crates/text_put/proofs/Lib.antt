-- Laws of decimals.
pub mod Laws
