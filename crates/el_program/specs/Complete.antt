-- Calls in which no call of a device fails.
use Rattle.std.specs.Prelude.{◌≡◌, ◌<◌, ⊤}
use Rattle.el_outside.specs.Counts.{count_limit}
use Rattle.el_side.specs.Deeds.{Device}
use Rattle.el_loop.specs.Traffic.{Traffic}
use Rattle.el_loop.specs.Counts.{Counts}
use Rattle.el_undisturbed.specs.Undisturbed.{Undisturbed}
use Rattle.el_program.specs.declared.status.Status.{Status}
use Rattle.el_program.specs.declared.status.Status.TheVariants as status

-- no call of a device failed: no count rose, and none stands at its greatest
abbrev pub NoneFailed : Counts → Type 0
NoneFailed c = (d : Device) → (c.faults_after d ≡ c.faults_before d) × (c.faults_before d < count_limit)

-- The statuses that no device is the cause of, of a call whose words are those of a server and whose disk, if
-- these ask for one, is an index.
abbrev pub IsCompleteEnd : Status → Type 0
IsCompleteEnd status.Ended = ⊤
IsCompleteEnd status.OutOfMemory = ⊤
IsCompleteEnd status.TurnsSpent = ⊤
IsCompleteEnd status.OtherChain = ⊤
IsCompleteEnd status.BadChain = ⊤
IsCompleteEnd other = ⊥

-- The call ended so, and nothing was told or closed for a failure.
pub record IsComplete (t : Traffic) (s : Status) : Type 0 where
  pub ends : IsCompleteEnd s
  pub calm : Undisturbed t.messages t.closings
