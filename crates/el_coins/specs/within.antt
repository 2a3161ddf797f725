pub mod Balances
pub mod Meters
