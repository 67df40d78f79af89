-- What the one pass over a lane keeps. Sets: sets of locks and the ways to a position as numbers; Lanes: a lane as the
-- pass reads it.
pub mod Sets
pub mod Lanes
