pub mod Rows
pub mod OlderWalks
pub mod Found
pub mod Steps
