pub mod RedoBody
