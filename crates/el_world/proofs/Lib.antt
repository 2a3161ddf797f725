pub mod KeepTold
pub mod LastTold
pub mod Sureness
pub mod NodeAlone
pub mod NodeTexts
