-- What is proved of the acceptance: Laws of the code.
-- What is proved of the chains in a buffer: Laws of the code.
pub mod Laws
