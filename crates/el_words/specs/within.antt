pub mod Reading
pub mod Hashes
