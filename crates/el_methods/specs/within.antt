pub mod Stops
pub mod Tops
pub mod Lengths
