-- Bytes, decimals and words laid into a buffer.
pub mod Decimal
pub mod Words
