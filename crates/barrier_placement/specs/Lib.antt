-- Placement: the cookbook table, a lane as a chain of steps, the paper's sentence, the computed placement, and lanes
-- laid out with their barriers. CookbookExamples spells the paper's table.
pub mod Cookbook
pub mod Chain
pub mod Steps
pub mod Sentence
pub mod Place
pub mod Placed
pub mod Layout
pub mod Sheet
pub mod CookbookExamples
