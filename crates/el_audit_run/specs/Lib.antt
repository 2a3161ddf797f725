pub mod Findings
pub mod Lines
pub mod OwnBlocks
pub mod within
