pub mod World
pub mod Run
pub mod Flights
pub mod LastTold
