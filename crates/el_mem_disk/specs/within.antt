pub mod DiskPast
pub mod DiskRules
