-- Laws by subject.
pub mod Printed
