mod BatchLoop
mod Broadcasting
mod ErrorTexts
pub mod Losing
mod LineEnds
mod Reading
