-- Laws by subject.
pub mod Line
pub mod Sheet
