pub mod Redoing
pub mod Checking
