pub mod TouchedBy
pub mod within
