-- A disk in memory that tells nothing.
use Rattle.el_mem_disk.specs.declared.disk.MemDisk.{MemDisk}
use Rattle.el_mem_disk.specs.declared.silent_disk.SilentDisk.{SilentDisk}

-- the disk that does the work
abbrev pub inner : SilentDisk → MemDisk
inner silent = silent.disk
