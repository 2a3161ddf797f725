-- A call of `serve`, and how it ends.
use Rattle.std.specs.Prelude.{ℕ, List}
use Rattle.el_outside.specs.declared.archive.Archive as archive
use Rattle.el_outside.specs.declared.disk.Disk as disk
use Rattle.el_outside.specs.declared.link.Link as link
use Rattle.el_outside.specs.declared.relay.Relay as relay
use Rattle.el_chain.specs.Chains.{Chain}
use Rattle.el_program.specs.Ends.{Ends}
use Rattle.el_program.specs.Opened.{IndexChain}
use Rattle.el_loop.specs.Counts.{Devices, counts_of}
use Rattle.el_loop.specs.Traffic.{Traffic, WentBy, WentTo}
use Rattle.el_program.specs.declared.status.Status.{Status}

-- A call: its words, how many calls of `next` it may make, its devices before it and after it, and its end.
pub record Call (D A Y K : Type 0) : Type 0 where
  pub words : List (List ℕ)
  pub turns : ℕ
  pub before : Devices D A Y K
  pub after : Devices D A Y K
  pub status : Status

-- a call with these parts
abbrev pub call : {D A Y K : Type 0} → List (List ℕ) → ℕ → Devices D A Y K → Devices D A Y K → Status
    → Call D A Y K
call words turns before after status =
    record { words = words; turns = turns; before = before; after = after; status = status }

-- How the call ends, where the disk reads as an index with this chain, `was` was acknowledged before and
-- `flight` was in flight. `leaves` says of a network's magic and two chains that all that a crash may leave
-- of the disk in the end stands for the one or for the other.
abbrev pub CallEnds : {D A Y K : Type 0} → disk.Ghosts D → archive.Ghosts A → relay.Ghosts Y → link.Ghosts K
    → Call D A Y K
    → Chain → Chain → IndexChain → (List ℕ → Chain → Chain → Type 0) → Type 0
CallEnds of_disk of_files of_relay of_link c was flight index leaves = (t : Traffic)
    × (WentBy of_link c.before.link c.after.link t × WentTo of_relay c.before.relay c.after.relay t)
    × Ends of_files c.words was flight index leaves
    (counts_of of_disk.faults of_files of_relay of_link c.turns c.before c.after) c.before.files c.after.files
    t
    c.status
