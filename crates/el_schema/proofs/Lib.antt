pub mod Answered
pub mod FirstRows
pub mod Held
pub mod Rows
pub mod StandingLemmas
