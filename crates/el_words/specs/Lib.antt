pub mod Options
pub mod Words
pub mod Proofs
pub mod Commands
pub mod within
