pub mod Putting
pub mod Own
pub mod Found
pub mod Texts
pub mod Reaching
