-- Laws by subject.
pub mod Known
pub mod Plan
pub mod Read
pub mod Sets
