use Rattle.std.proofs.Common.{◌≡◌, ◌≤◌, ◌+◌, ◌-◌, max}
use Rattle.el_outside.specs.Moments.{LeftNow}
use Rattle.el_redone.specs.Steps.{Leaves, AreOnDisk}
use Rattle.el_redone.proofs.steps.sync_files.Given as goal

abbrev pub invariant-loop-file : goal.invariant-loop-file
invariant-loop-file g l = record {
  durable : g.D.Disk.tells → AreOnDisk g.D.Disk l.fn.span.first l.file l.disk;
  seen : g.D.Disk.tells → g.D.Disk.seen l.disk ≡ g.D.Disk.seen l.fn.disk;
  crash : g.D.Disk.tells → Leaves g.D.Disk (LeftNow g.D.Disk.moment g.D.Disk.left_since l.fn.disk) l.fn.disk l.disk;
  calls : g.D.Disk.calls l.disk ≡ g.D.Disk.calls l.fn.disk + (l.file - l.fn.span.first);
  end : l.file ≤ max l.fn.span.first l.fn.span.redo;
  faults : g.D.Disk.faults l.disk ≡ g.D.Disk.faults l.fn.disk;
}
