pub mod Lists
pub mod OwnCoins
pub mod Comparing
