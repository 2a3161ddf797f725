-- How often calls of the devices failed, over spans one after the other.
use Rattle.std.proofs.Common.{◌≡◌, ℕ, ◌+◌, ◌≤◌, List, [], ◌∷◌, ◌++◌, length, ap, ◌∙◌, length-append, Ok, refl, arith}
use Rattle.std.specs.Prelude.{filter}
use Rattle.std.proofs.lemmas.List.Elements.{filter-append}
use Rattle.el_outside.specs.Counts.{RoseBy}
use Rattle.el_outside.specs.Relays.{Offer}
use Rattle.el_outside.proofs.Traces.{rose_none, rose_more}
use Rattle.el_side.specs.Deeds as deed
use Rattle.el_side.specs.Deeds.{Device, Deed, link, archive, disk, relay, is_lost, failures, NoneLost, offers, Faults, faults, Rose}

pub failures_on : (device : Device) (first second : List Deed) → failures device (first ++ second) ≡ failures device first + failures device second
failures_on device first second =
    ap (λ (l : List Deed). length l) (filter-append (is_lost device) first second)
    ∙ length-append (filter (is_lost device) first) (filter (is_lost device) second)

pub all_rose_none : (before : Faults) → Rose before before []
all_rose_none before = λ device. rose_none (before device)

pub all_rose_on : (a b c : Faults) (first second : List Deed) → Rose a b first → Rose b c second → Rose a c (first ++ second)
all_rose_on a b c first second r s = λ device.
    rw (failures_on device first second) (rose_more (a device) (b device) (c device) (failures device first) (failures device second) (r device) (s device))

-- a count that stays rose by none
pub rose_still : (a b : ℕ) → b ≡ a → RoseBy a b 0
rose_still a b same = omega arith

-- calls of the block files and of the disk alone failed
pub rose_of : (of_link of_relay archive_before archive_after disk_before disk_after : ℕ) (deeds : List Deed)
    → failures link deeds ≡ 0 → failures relay deeds ≡ 0
    → RoseBy archive_before archive_after (failures archive deeds)
    → RoseBy disk_before disk_after (failures disk deeds)
    → Rose (faults of_link archive_before disk_before of_relay) (faults of_link archive_after disk_after of_relay) deeds
rose_of of_link of_relay ab aa db da deeds no_link no_relay of_files of_disk link = rw no_link (rose_still of_link of_link refl)
rose_of of_link of_relay ab aa db da deeds no_link no_relay of_files of_disk archive = of_files
rose_of of_link of_relay ab aa db da deeds no_link no_relay of_files of_disk disk = of_disk
rose_of of_link of_relay ab aa db da deeds no_link no_relay of_files of_disk relay = rw no_relay (rose_still of_relay of_relay refl)

-- each count is at least what it was
pub each_more : (a b : Faults) → a link ≤ b link → a archive ≤ b archive → a disk ≤ b disk → a relay ≤ b relay
    → (device : Device) → a device ≤ b device
each_more a b of_link of_archive of_disk of_relay link = of_link
each_more a b of_link of_archive of_disk of_relay archive = of_archive
each_more a b of_link of_archive of_disk of_relay disk = of_disk
each_more a b of_link of_archive of_disk of_relay relay = of_relay

-- a failed call is lost
pub not_lost : (d : Device) (deeds : List Deed) → NoneLost deeds → deeds ≡ deed.lost d ∷ [] → ⊥
not_lost d deeds none is = (rw is at none).0

-- of deeds of which none is lost, none is in the front, and none behind
pub none_front : (first second : List Deed) → NoneLost (first ++ second) → NoneLost first
none_front [] second none = tt
none_front (d ∷ first) second none = (none.0, none_front first second none.1)

pub none_back : (first second : List Deed) → NoneLost (first ++ second) → NoneLost second
none_back [] second none = none
none_back (d ∷ first) second none = none_back first second none.1

-- offers of deeds one after the other
pub offers_on : (first second : List Deed) → offers (first ++ second) ≡ offers first ++ offers second
offers_on [] second = refl
offers_on (deed.lost device ∷ first) second = offers_on first second
offers_on (deed.offered bytes verdict ∷ first) second =
    ap (λ (l : List Offer). record { bytes = bytes; answer = Ok verdict } ∷ l) (offers_on first second)
