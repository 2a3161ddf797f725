pub mod Appending
pub mod Scanning
pub mod Reading
pub mod within
