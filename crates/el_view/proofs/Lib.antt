pub mod Untaken
pub mod Weighing
pub mod Making
pub mod Conserved
pub mod Tallied
