-- Laws by subject.
pub mod Read
pub mod Lanes
pub mod Parts
pub mod Put
