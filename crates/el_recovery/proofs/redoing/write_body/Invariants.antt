use Rattle.std.proofs.Common.{◌≡◌, ◌⊎◌, ◌<◌, ◌≤◌, ◌+◌, ◌*◌, ◌-◌, ℕ, List}
use Rattle.el_rows.specs.Changes.{Changes}
use Rattle.el_pages.specs.Layouts.{redo_of}
use Rattle.el_recovery.specs.within.Redoing.{HasLeft}
use Rattle.el_recovery.proofs.Progress.{Progress}
use Rattle.el_recovery.proofs.redoing.write_body.Given as goal

abbrev pub invariant-loop-at : goal.invariant-loop-at
invariant-loop-at g l = record {
  left : g.D.Disk.tells → (changes : Changes) (stale : List ℕ) → HasLeft l.layout (g.D.Disk.seen l.fn.disk) l.from l.end changes stale
      → Progress g.D.Disk l.layout l.fn.disk l.disk l.at l.end changes stale;
  beside : g.D.Disk.tells → (f : ℕ) → (f < l.layout.first) ⊎ (redo_of l.layout ≤ f) → g.D.Disk.seen l.disk f ≡ g.D.Disk.seen l.fn.disk f;
  calls : 3 * g.D.Disk.calls l.disk + l.from ≤ 3 * g.D.Disk.calls l.fn.disk + l.at;
  far : l.from ≤ l.end → l.at ≤ l.end + 265;
  faults : g.D.Disk.faults l.disk ≡ g.D.Disk.faults l.fn.disk;
}

abbrev pub decreases-loop-at : goal.decreases-loop-at
decreases-loop-at g l = l.end - l.at
