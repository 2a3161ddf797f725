pub mod Staging
pub mod Runs
pub mod Caching
