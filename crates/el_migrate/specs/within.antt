pub mod Moving
pub mod Relinked
pub mod Moved
pub mod Rooting
pub mod Ready
