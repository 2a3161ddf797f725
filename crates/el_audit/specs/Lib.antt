pub mod Claims
pub mod Reports
pub mod Collected
pub mod Checkers
pub mod within
