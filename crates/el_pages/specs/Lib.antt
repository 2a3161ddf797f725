pub mod Layouts
pub mod Records
pub mod Indexes
pub mod Stores
pub mod within
