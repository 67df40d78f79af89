-- Laws by subject.
pub mod Early
pub mod Sheet
