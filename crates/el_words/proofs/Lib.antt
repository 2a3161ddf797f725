pub mod OptionLemmas
pub mod Checking
pub mod Walking
pub mod ProofLemmas
pub mod OneCommand
