pub mod Fronts
mod Held
mod Runs
mod Writes
