mod Bounds
mod Dropped
mod Entries
mod LastRows
mod Undoing
mod Whole
