-- Laws of chains as rows.
pub mod Laws
