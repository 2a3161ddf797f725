pub mod Lines
pub mod Parameters
pub mod within
