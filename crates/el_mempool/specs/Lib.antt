pub mod Sift
pub mod Unconfirmed
pub mod Refusals
pub mod Standing
pub mod Adding
pub mod Moving
pub mod Fees
