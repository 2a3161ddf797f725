pub mod OwnCoins
pub mod Sides
pub mod Exactly
pub mod Stays
