pub mod Parts
pub mod Full
