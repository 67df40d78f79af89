-- Laws by subject.
pub mod Decimal
