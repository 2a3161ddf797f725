pub mod Changes
pub mod Reads
pub mod SizedRows
pub mod Transaction
pub mod within
