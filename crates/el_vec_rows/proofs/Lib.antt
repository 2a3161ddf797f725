pub mod FirstRows
pub mod InMemoryLemmas
pub mod PlacedLemmas
