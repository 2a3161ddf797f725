pub mod Told
pub mod Notices
pub mod within
