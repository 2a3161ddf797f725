mod Heights
mod Found
pub mod Places
mod Printable
mod ManyHeaders
mod Served
mod Unchanged
mod Own
