pub mod Tables
pub mod Listings
pub mod Named
