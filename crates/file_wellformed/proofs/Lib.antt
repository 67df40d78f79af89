-- Theorems on the verdict: Lawful every accepted kernel is lawful, Adequate two checks of the definitions, Named
-- what a refusal names, Front how many bytes decide, Longest how long a chain may be.
pub mod Lawful
pub mod Adequate
pub mod Named
pub mod Front
pub mod Longest
-- each record belongs to one lane
pub mod Walks
pub mod Once
