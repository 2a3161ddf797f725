pub mod Heard
pub mod Laws
pub mod Links
pub mod Peers
pub mod Taking
