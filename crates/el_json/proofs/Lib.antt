mod Values
mod Taking
mod Batches
mod Naming
mod Printable
mod Pairs
mod Written
