mod PlanLaws
mod Prefixes
pub mod Deeds
pub mod Settled
pub mod Cached
