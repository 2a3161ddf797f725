pub mod Walks
pub mod Heads
