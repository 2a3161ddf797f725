pub mod HasAll
pub mod WholeRecords
pub mod Undisturbed
pub mod AsDefined
