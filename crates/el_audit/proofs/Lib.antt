pub mod Bounds
pub mod OwnCoins
pub mod Walks
pub mod Reports
pub mod Pieces
pub mod Asking
pub mod Given
