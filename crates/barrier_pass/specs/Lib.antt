-- Known: what the pass knows of a step, as a number; Plan: a lane's plan as numbers.
pub mod Known
pub mod Plan
