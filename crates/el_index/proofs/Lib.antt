pub mod IndexRows
pub mod Kept
pub mod Touchings
pub mod Addings
pub mod LastBlock
pub mod Targets
pub mod Puttings
