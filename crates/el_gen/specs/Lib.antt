pub mod Generated
pub mod MadeFile
