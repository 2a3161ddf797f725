pub mod Exchanged
pub mod Known
pub mod Renewed
pub mod Sifts
pub mod Relisted
pub mod Untouched
pub mod Blocks
