pub mod Tables
pub mod within
