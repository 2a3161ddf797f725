pub mod OldIndexes
pub mod OldChecks
pub mod OldRows
pub mod ImageChains
pub mod within
