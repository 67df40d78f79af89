-- Small laws by subject.
pub mod Bits
pub mod Cookbook
pub mod Bytes
pub mod Paths
pub mod Place
pub mod DueAfter
pub mod Pass
pub mod Chosen
pub mod Kinds
pub mod Layout
pub mod Items
pub mod Traces
