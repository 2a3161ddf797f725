pub mod Devices
pub mod Unread
pub mod Lived
