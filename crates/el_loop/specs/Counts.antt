-- How often calls of the devices were made, and failed.
use Rattle.std.specs.Prelude.{◌≡◌, ℕ, ◌≤◌, Option, None, Some}
use Rattle.el_outside.specs.Counts.{RoseBy, risen}
use Rattle.el_side.specs.Deeds as device
use Rattle.el_side.specs.Deeds.{Device, Faults, faults}
use Rattle.el_outside.specs.declared.archive.Archive as archive
use Rattle.el_outside.specs.declared.link.Link as link
use Rattle.el_outside.specs.declared.relay.Relay as relays
use Rattle.el_loop.specs.declared.end.End.{End}
use Rattle.el_loop.specs.declared.end.End.TheVariants as end

-- How many calls of `next` may be made; and, before and after all that was done, how often it had been
-- called, and how often calls of each device had failed.
pub record Counts : Type 0 where
  pub turns : ℕ
  pub calls_before : ℕ
  pub calls_after : ℕ
  pub faults_before : Faults
  pub faults_after : Faults

-- the counts of a call that may make so many calls of `next`
abbrev pub counts : ℕ → ℕ → ℕ → Faults → Faults → Counts
counts turns calls_before calls_after faults_before faults_after = record {
  turns = turns;
  calls_before = calls_before;
  calls_after = calls_after;
  faults_before = faults_before;
  faults_after = faults_after;
}

-- The devices at some moment: the ledger's, or a ledger over it; the block files; the relay; and the link.
pub record Devices (D A Y K : Type 0) : Type 0 where
  pub disk : D
  pub files : A
  pub relay : Y
  pub link : K

-- these four, as the devices at some moment
abbrev pub devices : {D A Y K : Type 0} → D → A → Y → K → Devices D A Y K
devices disk files relay link = record { disk = disk; files = files; relay = relay; link = link }

-- How often calls of the devices have failed. `disk_faults` tells it of the ledger's device.
abbrev pub faults_of : {D A Y K : Type 0} → (D → ℕ) → archive.Ghosts A → relays.Ghosts Y → link.Ghosts K
    → Devices D A Y K → Faults
faults_of disk_faults of_files of_relay of_link now =
    faults (of_link.faults now.link) (of_files.faults now.files) (disk_faults now.disk)
    (of_relay.faults now.relay)

-- How often calls of the devices were made, and failed, before so many turns and after them.
abbrev pub counts_of : {D A Y K : Type 0} → (D → ℕ) → archive.Ghosts A → relays.Ghosts Y → link.Ghosts K → ℕ
    → Devices D A Y K → Devices D A Y K → Counts
counts_of disk_faults of_files of_relay of_link turns before after =
    counts turns (of_link.calls before.link) (of_link.calls after.link)
    (faults_of disk_faults of_files of_relay of_link before)
    (faults_of disk_faults of_files of_relay of_link after)

-- the count rose by one at least, or stands at its greatest
abbrev pub HasRisen : ℕ → ℕ → Type 0
HasRisen before after = risen before 1 ≤ after

-- the device whose failure ends a run
abbrev pub failed_device : End → Option Device
failed_device end.DiskFailed = Some device.disk
failed_device end.LinkFailed = Some device.link
failed_device other = None

-- What holds of every run, whatever its devices tell: counts of failed calls never fall, and the device whose
-- failure ended it, if one did, is counted; at most as many calls of `next` were made as may be made, and
-- exactly as many where they are spent.
pub record IsCaused (c : Counts) (failed : Option Device) (are_spent : Type 0) : Type 0 where
  pub more : (d : Device) → c.faults_before d ≤ c.faults_after d
  pub rose : (d : Device) → failed ≡ Some d → HasRisen (c.faults_before d) (c.faults_after d)
  pub calls : ℕ
  pub called : RoseBy c.calls_before c.calls_after calls
  pub few : calls ≤ c.turns
  pub spent : are_spent → calls ≡ c.turns
