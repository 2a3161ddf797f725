pub mod MemLives
