pub mod Arrivals
pub mod Calls
pub mod within
