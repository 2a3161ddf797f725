use Rattle.std.proofs.Common.{◌≡◌, ◌<◌, ◌+◌, ◌*◌, ◌++◌, ℕ, List, Some, length, take}
use Rattle.std.specs.Prelude.{slice_get}
use Rattle.el_rows.specs.Changes.{Changes}
use Rattle.el_row_formats.specs.Tables.{key, size_of, row_at}
use Rattle.el_redo.specs.RedoBody.{changes_bytes}
use Rattle.el_redone.specs.Steps.{StaysAside}
use Rattle.el_pages.specs.within.Staging.{CanPut, written_so_far, IsPaid}
use Rattle.el_pages.proofs.staging.put_rows.Given as goal

abbrev pub invariant-loop-j : goal.invariant-loop-j
invariant-loop-j g l = record {
  ready : CanPut g.D.Disk l.span.redo l.disk l.buffer l.here;
  same : length l.buffer ≡ length l.fn.buffer;
  written : g.D.Disk.tells → (changes : Changes) (k : ℕ) (front : List ℕ)
      → ((j : ℕ) → j < l.rows → slice_get changes (k + j) ≡ Some (key l.t (l.first + j), row_at (size_of l.t) l.bytes j))
      → written_so_far (g.D.Disk.seen l.fn.disk l.span.redo) l.fn.next.at l.fn.buffer l.fn.next.used ≡ front ++ changes_bytes (take k changes)
      → written_so_far (g.D.Disk.seen l.disk l.span.redo) l.here.at l.buffer l.here.used ≡ front ++ changes_bytes (take (k + l.j) changes);
  aside : g.D.Disk.tells → StaysAside g.D.Disk l.span.first l.span.redo l.fn.disk l.disk;
  paid : IsPaid (length l.fn.buffer) (g.D.Disk.calls l.fn.disk) (g.D.Disk.calls l.disk) l.fn.next l.here (l.j * (9 + size_of l.t));
  faults : g.D.Disk.faults l.disk ≡ g.D.Disk.faults l.fn.disk;
}
