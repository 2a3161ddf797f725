pub mod GroupLemmas
pub mod TreeLemmas
pub mod ReadingLemmas
pub mod ProofLemmas
pub mod BlockLemmas
