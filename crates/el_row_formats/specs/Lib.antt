pub mod Tables
pub mod RowBytes
pub mod OldRowBytes
