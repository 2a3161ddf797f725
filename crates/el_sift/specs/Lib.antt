pub mod Untouched
pub mod within
