pub mod News
pub mod Noticed
