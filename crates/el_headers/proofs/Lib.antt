pub mod Places
pub mod Heights
pub mod Growing
pub mod Paths
pub mod Putting
pub mod OnePath
