pub mod Merkle
