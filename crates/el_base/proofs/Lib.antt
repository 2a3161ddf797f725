pub mod ByteLemmas
pub mod CompactLemmas
pub mod Lists
mod ShownLemmas
