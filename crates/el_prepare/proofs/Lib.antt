pub mod PreparedLemmas
pub mod PieceLemmas
pub mod BatchLemmas
