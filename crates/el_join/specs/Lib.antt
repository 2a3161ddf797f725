pub mod within
