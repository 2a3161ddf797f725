pub mod Archives
pub mod Coming
pub mod Greatest
pub mod Kept
pub mod Relays
pub mod within
