-- The kernel file up to its verdict. Named is a record or none. Fields to Targets define the checks of its structure,
-- Structured what they leave, Accepted the kernel that a sound file stands for, Held the held-set rule, Rising the
-- order in which locks are taken, Stored what the code holds, Lawful what an accepted kernel satisfies. LimitExamples
-- computes the limits of each field, RisingExamples the order of locks.
pub mod Search
pub mod Named
pub mod Fields
pub mod Rules
pub mod Linkage
pub mod Targets
pub mod Structured
pub mod Accepted
pub mod Held
pub mod Rising
pub mod Stored
pub mod Lawful
pub mod LimitExamples
pub mod RisingExamples
