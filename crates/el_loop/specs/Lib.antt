pub mod Counts
pub mod Traffic
pub mod Runs
pub mod within
