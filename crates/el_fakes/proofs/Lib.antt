pub mod PeerLemmas
pub mod Growing
pub mod Arriving
pub mod Padded
