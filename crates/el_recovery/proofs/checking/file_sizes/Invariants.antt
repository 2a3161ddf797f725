use Rattle.std.proofs.Common.{◌≡◌, ◌<◌, ◌+◌, ℕ, length, get_or}
use Rattle.el_outside.specs.Moments.{LeftNow}
use Rattle.el_outside.specs.declared.archive.TheConstants.{SIZE_LIMIT}
use Rattle.el_redone.specs.Steps.{Leaves}
use Rattle.el_recovery.proofs.checking.file_sizes.Given as goal

abbrev pub invariant-loop-i : goal.invariant-loop-i
invariant-loop-i g l = record {
  sizes : g.D.Disk.tells → (k : ℕ) → k < l.i → get_or l.sizes k 0 ≡ length (g.D.Disk.seen l.fn.disk (l.layout.first + 1 + k));
  small : (k : ℕ) → get_or l.sizes k 0 < SIZE_LIMIT;
  long : length l.sizes ≡ 8;
  seen : g.D.Disk.tells → g.D.Disk.seen l.disk ≡ g.D.Disk.seen l.fn.disk;
  crash : g.D.Disk.tells → Leaves g.D.Disk (LeftNow g.D.Disk.moment g.D.Disk.left_since l.fn.disk) l.fn.disk l.disk;
  calls : g.D.Disk.calls l.disk ≡ g.D.Disk.calls l.fn.disk + l.i;
  faults : g.D.Disk.faults l.disk ≡ g.D.Disk.faults l.fn.disk;
}
