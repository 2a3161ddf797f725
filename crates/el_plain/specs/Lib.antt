pub mod Plain
pub mod within
