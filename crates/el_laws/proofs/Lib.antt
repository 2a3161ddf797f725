mod Results
mod RunLemmas
mod Starts
mod VersionLemmas
