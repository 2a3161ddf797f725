pub mod Calls
pub mod OpenFiles
