pub mod Differing
pub mod MadeNodes
pub mod Numbers
