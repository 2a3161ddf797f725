pub mod Outputs
pub mod within
