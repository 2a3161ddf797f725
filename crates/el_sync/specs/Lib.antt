pub mod Steps
pub mod RowBounds
pub mod Starving
pub mod within
