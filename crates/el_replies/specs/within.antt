pub mod Errors
pub mod Gathered
