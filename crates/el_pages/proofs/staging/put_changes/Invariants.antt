use Rattle.std.proofs.Common.{◌≡◌, ◌≤◌, ◌-◌, ◌++◌, length, take}
use Rattle.el_redo.specs.RedoBody.{changes_bytes}
use Rattle.el_redone.specs.Steps.{StaysAside}
use Rattle.el_pages.specs.within.Staging.{CanPut, written_so_far, IsPaid}
use Rattle.el_pages.proofs.staging.put_changes.Given as goal

abbrev pub invariant-loop-k : goal.invariant-loop-k
invariant-loop-k g l = record {
  within : l.k ≤ length l.sealed.changes;
  ready : CanPut g.D.Disk l.span.redo l.disk l.buffer l.here;
  same : length l.buffer ≡ length l.fn.buffer;
  written : g.D.Disk.tells → written_so_far (g.D.Disk.seen l.disk l.span.redo) l.here.at l.buffer l.here.used
      ≡ written_so_far (g.D.Disk.seen l.fn.disk l.span.redo) l.fn.next.at l.fn.buffer l.fn.next.used ++ changes_bytes (take l.k l.sealed.changes);
  aside : g.D.Disk.tells → StaysAside g.D.Disk l.span.first l.span.redo l.fn.disk l.disk;
  paid : IsPaid (length l.fn.buffer) (g.D.Disk.calls l.fn.disk) (g.D.Disk.calls l.disk) l.fn.next l.here (length (changes_bytes (take l.k l.sealed.changes)));
  faults : g.D.Disk.faults l.disk ≡ g.D.Disk.faults l.fn.disk;
}

abbrev pub decreases-loop-k : goal.decreases-loop-k
decreases-loop-k g l = length l.sealed.changes - l.k
