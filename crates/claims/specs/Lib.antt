-- Claims states what is proved of every accepted kernel file. Schedules gives the schedules that match, Stuck says when
-- a machine has no permitted move, Direct which source runs go straight to memory. Examples computes these words.
pub mod Schedules
pub mod Stuck
pub mod Direct
pub mod Claims
pub mod Examples
