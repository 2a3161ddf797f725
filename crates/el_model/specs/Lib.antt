pub mod Queries
pub mod Keeping
pub mod LedgerCalls
pub mod within
