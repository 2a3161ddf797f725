pub mod Summaries
pub mod Leading
pub mod Checked
pub mod within
