pub mod MemoryRows
pub mod within
