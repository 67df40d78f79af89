-- Laws of placing.
pub mod Laws
