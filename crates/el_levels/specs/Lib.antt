pub mod Groups
pub mod Trees
pub mod Kept
pub mod Blocks
pub mod within
