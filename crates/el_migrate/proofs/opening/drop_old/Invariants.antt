use Rattle.std.proofs.Common.{◌≡◌, ◌+◌, ◌*◌, ◌<◌, ◌≤◌, ℕ, []}
use Rattle.el_redone.specs.Steps.{Leaves}
use Rattle.el_migrate.specs.within.Rooting.{HasNewFiles}
use Rattle.el_migrate.proofs.opening.drop_old.Given as goal

abbrev pub invariant-loop-file : goal.invariant-loop-file
invariant-loop-file g l = record {
  empty : g.D.Disk.tells → (f : ℕ) → f < l.file → g.D.Disk.seen l.disk f ≡ [];
  others : g.D.Disk.tells → (f : ℕ) → 9 < f → g.D.Disk.seen l.disk f ≡ g.D.Disk.seen l.fn.disk f;
  crash : g.D.Disk.tells → Leaves g.D.Disk (HasNewFiles g.D.Disk l.fn.disk) l.fn.disk l.disk;
  calls : g.D.Disk.calls l.disk ≤ g.D.Disk.calls l.fn.disk + 3 * l.file;
  faults : g.D.Disk.faults l.disk ≡ g.D.Disk.faults l.fn.disk;
}
