pub mod CoinLayers
pub mod CoinTables
pub mod Drafts
pub mod Tallies
pub mod Touching
pub mod within
