pub mod DiskFileLists
pub mod DiskSound
pub mod DiskCalls
pub mod FolderCalls
pub mod Choices
