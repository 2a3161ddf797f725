-- How often calls of the devices failed, over spans one after the other.
use Rattle.std.proofs.Common.{◌≡◌, ℕ, ◌+◌, ◌≤◌, List, [], ◌++◌, length, ap, ◌∙◌, length-append, refl, arith}
use Rattle.std.specs.Prelude.{filter}
use Rattle.std.proofs.lemmas.List.Elements.{filter-append}
use Rattle.el_outside.specs.Counts.{RoseBy}
use Rattle.el_outside.specs.Devices.{Device, link, archive, disk, same_device, failures, Faults, faults, Rose}
use Rattle.el_outside.proofs.Traces.{rose_none, rose_more}

pub failures_on : (device : Device) (first second : List Device) → failures device (first ++ second) ≡ failures device first + failures device second
failures_on device first second =
    ap (λ (l : List Device). length l) (filter-append (same_device device) first second)
    ∙ length-append (filter (same_device device) first) (filter (same_device device) second)

pub all_rose_none : (before : Faults) → Rose before before []
all_rose_none before = λ device. rose_none (before device)

pub all_rose_on : (a b c : Faults) (first second : List Device) → Rose a b first → Rose b c second → Rose a c (first ++ second)
all_rose_on a b c first second r s = λ device.
    rw (failures_on device first second) (rose_more (a device) (b device) (c device) (failures device first) (failures device second) (r device) (s device))

-- a count that stays rose by none
pub rose_still : (a b : ℕ) → b ≡ a → RoseBy a b 0
rose_still a b same = omega arith

-- calls of the block files and of the disk alone failed
pub rose_of : (of_link archive_before archive_after disk_before disk_after : ℕ) (losses : List Device)
    → failures link losses ≡ 0 → RoseBy archive_before archive_after (failures archive losses)
    → RoseBy disk_before disk_after (failures disk losses)
    → Rose (faults of_link archive_before disk_before) (faults of_link archive_after disk_after) losses
rose_of of_link ab aa db da losses no_link of_files of_disk link = rw no_link (rose_still of_link of_link refl)
rose_of of_link ab aa db da losses no_link of_files of_disk archive = of_files
rose_of of_link ab aa db da losses no_link of_files of_disk disk = of_disk

-- each count is at least what it was
pub each_more : (a b : Faults) → a link ≤ b link → a archive ≤ b archive → a disk ≤ b disk
    → (device : Device) → a device ≤ b device
each_more a b of_link of_archive of_disk link = of_link
each_more a b of_link of_archive of_disk archive = of_archive
each_more a b of_link of_archive of_disk disk = of_disk
