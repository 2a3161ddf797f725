pub mod Checks
pub mod Openings
pub mod within
