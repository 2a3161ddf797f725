pub mod Means
pub mod within
