-- What lives leave behind.
use Rattle.std.specs.Prelude.{◌≡◌, ℕ, List}
use Rattle.std.specs.List.{AllByRecursion}
use Rattle.el_outside.specs.declared.archive.Archive as archive
use Rattle.el_outside.specs.declared.disk.Disk as disk
use Rattle.el_outside.specs.declared.link.Link as link
use Rattle.el_outside.specs.declared.relay.Relay as relay
use Rattle.el_chain.specs.Chains.{Chain}
use Rattle.el_program.specs.Calls.{Call}
use Rattle.el_program.specs.Lives.{AreOver, AreLives, GoOn, LeavesOthers, last_disk}
use Rattle.el_program.specs.declared.status.Status.{Status}

-- Lives were lived over these block files, relays and links, the first on what this disk may leave, and ended
-- so. They go on from the one chain or the other, and the last left this disk.
pub record Lived {D A Y K : Type 0} (of_disk : disk.Ghosts D) (of_files : archive.Ghosts A)
    (of_relay : relay.Ghosts Y) (of_link : link.Ghosts K) (d : D) (was flight : Chain) (words : List (List ℕ))
    (turns : ℕ)
    (files files_after : List A) (relays relays_after : List Y) (links links_after : List K)
    (ends : List Status) (left : D) : Type 0 where
  pub lives : List (Call D A Y K)
  pub over : AreOver lives words turns files files_after relays relays_after links links_after ends
  pub are : AreLives of_disk d lives
  pub last : left ≡ last_disk d lives
  pub others : AllByRecursion (LeavesOthers of_disk) lives
  pub go_on : GoOn of_disk of_files of_relay of_link was flight lives
