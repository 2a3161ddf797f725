mod Arrivals
mod Deliveries
mod Numbers
mod Openness
mod Progresses
pub mod Rises
mod Runs
mod Sendings
mod Turned
