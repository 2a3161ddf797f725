pub mod DiskFiles
pub mod Disks
pub mod Failing
pub mod MemFolders
pub mod SilentDisks
pub mod within
