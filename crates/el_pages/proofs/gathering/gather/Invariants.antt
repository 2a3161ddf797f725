use Rattle.std.proofs.Common.{◌≡◌, ◌≤◌, ◌<◌, ◌+◌, ◌-◌, ◌*◌, ◌^◌, length, take}
use Rattle.el_row_formats.specs.Tables.{size_of}
use Rattle.el_pages.specs.within.Runs.{AreConsecutiveRows}
use Rattle.el_pages.proofs.gathering.gather.Given as goal

abbrev pub invariant-loop-next : goal.invariant-loop-next
invariant-loop-next l = record {
  same : length l.buffer ≡ length l.fn.buffer;
  few : l.rows ≤ l.most;
  fits : l.k + l.rows < 2 ^ 64;
  rows : AreConsecutiveRows l.sealed.changes l.k l.table l.first l.rows (take (l.rows * size_of l.table) l.buffer);
}

abbrev pub decreases-loop-next : goal.decreases-loop-next
decreases-loop-next l = l.most - l.rows
