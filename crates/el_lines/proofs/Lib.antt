pub mod Cuts
mod LineCuts
mod Standing
mod SameStates
mod Numbers
mod NodeLineLemmas
