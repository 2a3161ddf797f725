pub mod Lists
pub mod Compared
pub mod Led
pub mod Pooled
pub mod Reach
pub mod Tried
pub mod RowsRead
