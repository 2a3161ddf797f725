pub mod RowsThrough
pub mod Parts
pub mod ReadBlocks
