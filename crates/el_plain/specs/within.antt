pub mod Light
pub mod OwnCoins
pub mod CoinTables
