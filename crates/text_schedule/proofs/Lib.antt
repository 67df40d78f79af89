-- What is proved of schedules as text: small laws.
pub mod Laws
