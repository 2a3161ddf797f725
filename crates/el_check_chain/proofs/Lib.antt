pub mod Adding
pub mod Counting
pub mod WayLemmas
pub mod Walks
