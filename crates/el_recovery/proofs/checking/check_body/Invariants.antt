use Rattle.std.proofs.Common.{◌≡◌, ◌≤◌, ◌<◌, ◌+◌, ◌-◌, ◌*◌, ℕ, List}
use Rattle.el_outside.specs.Moments.{LeftNow}
use Rattle.el_outside.specs.declared.archive.TheConstants.{SIZE_LIMIT}
use Rattle.el_row_formats.specs.declared.table.Table.{Table}
use Rattle.el_rows.specs.Changes.{Changes, count_at}
use Rattle.el_redone.specs.Steps.{Leaves}
use Rattle.el_recovery.specs.within.Checking.{HasBody, IsBodyChecked}
use Rattle.el_recovery.proofs.checking.check_body.Given as goal

abbrev pub invariant-loop-at : goal.invariant-loop-at
invariant-loop-at g l = record {
  small : (t : Table) → count_at l.reach t < SIZE_LIMIT + l.at;
  within : l.at ≤ l.end;
  checked : g.D.Disk.tells → (body stale : List ℕ) → HasBody l.layout (g.D.Disk.seen l.fn.disk) l.len body stale
      → (changes : Changes) × (rest : List ℕ) × IsBodyChecked l.layout (g.D.Disk.seen l.disk) body stale l.at l.end changes rest (count_at l.reach);
  seen : g.D.Disk.tells → g.D.Disk.seen l.disk ≡ g.D.Disk.seen l.fn.disk;
  crash : g.D.Disk.tells → Leaves g.D.Disk (LeftNow g.D.Disk.moment g.D.Disk.left_since l.fn.disk) l.fn.disk l.disk;
  calls : 10 * g.D.Disk.calls l.disk + (9 + l.layout.meta) ≤ 10 * g.D.Disk.calls l.fn.disk + (80 + l.at);
  faults : g.D.Disk.faults l.disk ≡ g.D.Disk.faults l.fn.disk;
}

abbrev pub decreases-loop-at : goal.decreases-loop-at
decreases-loop-at g l = l.end - l.at
