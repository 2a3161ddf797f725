pub mod Scripts
pub mod Numbered
pub mod Ordered
pub mod Counting
