pub mod HexFaults
pub mod Ticks
