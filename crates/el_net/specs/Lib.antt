pub mod Devices
pub mod Masks
pub mod Paths
pub mod Unpadded
