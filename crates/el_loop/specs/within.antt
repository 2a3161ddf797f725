pub mod Sending
pub mod Progress
