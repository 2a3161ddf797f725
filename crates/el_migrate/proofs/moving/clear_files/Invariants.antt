use Rattle.std.proofs.Common.{◌≡◌, ◌⊎◌, ◌<◌, ◌≤◌, ℕ, []}
use Rattle.el_outside.specs.Disk.{Image}
use Rattle.el_redone.specs.Steps.{EachNow, Leaves}
use Rattle.el_migrate.specs.within.Moving.{HasOldFiles}
use Rattle.el_migrate.proofs.moving.clear_files.Given as goal

abbrev pub invariant-loop-file : goal.invariant-loop-file
invariant-loop-file g l = record {
  low : 20 ≤ l.file;
  empty : g.D.Disk.tells → (f : ℕ) → 20 ≤ f → f < l.file → g.D.Disk.seen l.disk f ≡ [];
  others : g.D.Disk.tells → (f : ℕ) → (f < 20) ⊎ (30 ≤ f) → g.D.Disk.seen l.disk f ≡ g.D.Disk.seen l.fn.disk f;
  crash : g.D.Disk.tells → (files : Image) → EachNow g.D.Disk (HasOldFiles files) l.fn.disk → Leaves g.D.Disk (HasOldFiles files) l.fn.disk l.disk;
  faults : g.D.Disk.faults l.disk ≡ g.D.Disk.faults l.fn.disk;
}
