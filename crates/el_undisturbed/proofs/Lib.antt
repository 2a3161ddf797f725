pub mod Standing
mod NodeLines
mod Forward
mod Led
mod Turned
mod Answering
