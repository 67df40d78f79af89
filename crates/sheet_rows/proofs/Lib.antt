-- Laws of rows in code.
-- Laws of bytes written.
pub mod Laws
