pub mod Hashing
pub mod Shown
pub mod Left
pub mod Compact
pub mod CompactReading
pub mod within
