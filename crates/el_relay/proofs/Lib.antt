pub mod Causes
pub mod Passing
