pub mod Found
pub mod Touches
pub mod within
