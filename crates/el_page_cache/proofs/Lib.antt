pub mod Rows
pub mod Places
pub mod Lookups
pub mod PageLemmas
