pub mod Outboxes
pub mod Paths
