pub mod Plans
pub mod Prefixes
pub mod Deeds
pub mod Side
pub mod Beneath
pub mod Caching
pub mod NodeSteps
pub mod UnderWay
