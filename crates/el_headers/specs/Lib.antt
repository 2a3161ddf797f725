pub mod Adding
pub mod within
