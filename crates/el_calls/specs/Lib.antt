pub mod Refusals
pub mod Names
pub mod Versions
pub mod Methods
