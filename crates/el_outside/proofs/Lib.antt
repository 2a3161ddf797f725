pub mod Traces
pub mod Devices
pub mod Calls
pub mod Moments
pub mod Runs
pub mod Bytes
pub mod Images
