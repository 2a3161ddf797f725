pub mod Histories
pub mod Lookups
pub mod LastBlock
