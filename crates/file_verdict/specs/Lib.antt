-- The verdict on a kernel file: Verdict defines it; Examples computes verdicts from bytes.
pub mod Verdict
pub mod Examples
