pub mod Going
pub mod Versions
