-- Laws by subject.
pub mod Told
