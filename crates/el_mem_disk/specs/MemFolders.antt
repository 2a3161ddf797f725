-- A folder in memory.
use Rattle.std.specs.Prelude.{◌≡◌, ◌==◌, ℕ, Bool, true}
use Rattle.std.specs.List.{list_any}
use Rattle.el_outside.specs.Disk.{Image}
use Rattle.el_mem_disk.specs.Disks.{seen_on, moment_of, left_on}
use Rattle.el_mem_disk.specs.declared.disk.MemDisk.{MemDisk}
use Rattle.el_mem_disk.specs.declared.mem_folder.MemFolder.{MemFolder}

-- the disk below the folder
abbrev pub disk_of_folder : MemFolder → MemDisk
disk_of_folder folder = folder.disk

-- what its files hold, as a read gives it: what the disk's hold
abbrev pub folder_seen : MemFolder → Image
folder_seen folder = seen_on folder.disk

-- the moment of the folder: the disk's
abbrev pub folder_moment : MemFolder → ℕ
folder_moment folder = moment_of folder.disk

-- what a crash since a moment might have left: what it might have left of the disk
abbrev pub folder_left : MemFolder → ℕ → Image → Type 0
folder_left folder = left_on folder.disk

-- the file is there
abbrev pub folder_has : MemFolder → ℕ → Bool
folder_has folder f = list_any (λ n. f == n) folder.made.items

-- its name is on the disk
abbrev pub folder_names : MemFolder → ℕ → Type 0
folder_names folder f = list_any (λ n. f == n) folder.named.items ≡ true
