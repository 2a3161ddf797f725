pub mod LedgerMoves
pub mod ReadBodies
pub mod Findings
pub mod Heights
