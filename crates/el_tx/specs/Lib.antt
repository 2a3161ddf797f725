pub mod Encoding
pub mod Hashing
pub mod Headers
pub mod FirstFault
pub mod within
