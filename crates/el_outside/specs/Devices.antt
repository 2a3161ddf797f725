-- The devices outside of the program, and how often calls of them failed.
use Rattle.std.specs.Prelude.{ℕ, Bool, true, false, List, length, filter}
use Rattle.el_outside.specs.Counts.{RoseBy}

-- the link to clients and to the node, the node's block files, and the disk of the index
pub data Device : Type 0 where
  link : Device
  archive : Device
  disk : Device

-- whether the two are one device
abbrev pub same_device : Device → Device → Bool
same_device link link = true
same_device archive archive = true
same_device disk disk = true
same_device device other = false

-- how many of these failures, each named by its device, are of this one
abbrev pub failures : Device → List Device → ℕ
failures device losses = length (filter (same_device device) losses)

-- how often calls of each device have failed
abbrev pub Faults : Type 0
Faults = Device → ℕ

-- the counts of the link, of the block files and of the disk, as one
abbrev pub faults : ℕ → ℕ → ℕ → Faults
faults of_link of_archive of_disk link = of_link
faults of_link of_archive of_disk archive = of_archive
faults of_link of_archive of_disk disk = of_disk

-- calls failed as often as these losses say, between the one moment and the other
abbrev pub Rose : Faults → Faults → List Device → Type 0
Rose before after losses = (device : Device) → RoseBy (before device) (after device) (failures device losses)
