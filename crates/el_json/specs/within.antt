pub mod Codes
pub mod ItemCodes
pub mod Room
