pub mod ScriptSteps
pub mod Causes
pub mod FoundScripts
