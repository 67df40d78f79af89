-- What is proved of whole kernels and whole runs. Theorem has `claims`, the one theorem; Demand2, Demand3, Over,
-- Progress and Finishes put its parts together. Each other file is named after what it shows.

-- small laws by subject
pub mod Laws
-- each run of a target has its source run
pub mod Fenced
pub mod PlacedFenced
pub mod Exposed
pub mod Stands
pub mod OpAgrees
pub mod LaneAgrees
pub mod Matching
pub mod Legal
-- no permitted move
pub mod Stuck
-- each direct source run has its run of a target
pub mod DirectLane
pub mod DirectMove
pub mod DirectPending
pub mod DirectMatching
-- number 11 is never met
pub mod HeldSets
pub mod LockClaims
pub mod LockTurns
pub mod ReleasesHeld
-- bounds
pub mod BoundedTurns
pub mod BoundedRuns
pub mod MarksKept
-- accepted kernels
pub mod KernelLanes
pub mod LeftOut
pub mod Demand2
pub mod Demand3
pub mod Over
pub mod Progress
pub mod Finishes
pub mod Theorem
-- a computed search over the states of a small kernel, for the examples
pub mod Explore
