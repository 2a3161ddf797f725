pub mod Asked
pub mod Refusing
pub mod Added
pub mod Gathered
pub mod Dropped
pub mod Backward
pub mod FeesGone
