pub mod Statuses
pub mod Hashing
pub mod Untouched
pub mod Exact
