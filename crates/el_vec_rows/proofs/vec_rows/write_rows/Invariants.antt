use Rattle.std.proofs.Common.{◌≡◌, ◌<◌, ◌+◌, ℕ, List, Some, length}
use Rattle.std.specs.Prelude.{slice_get}
use Rattle.el_row_formats.specs.declared.table.Table.{Table}
use Rattle.el_row_formats.specs.Tables.{key, size_of, row_at}
use Rattle.el_rows.specs.Changes.{Changes, IsMadeFrom}
use Rattle.el_vec_rows.specs.within.InMemory.{sized_rows, tables_held, AreSized, HasEnoughRows, AreWriting}
use Rattle.el_rows.specs.SizedRows.{SizedRows}
use Rattle.el_vec_rows.proofs.vec_rows.write_rows.Given as goal

abbrev pub invariant-loop-j : goal.invariant-loop-j
invariant-loop-j l = record {
  tables : length l.kept ≡ length l.fn.kept;
  long : length (tables_held l.kept l.t) ≡ length (tables_held l.fn.kept l.t);
  sized : (sized_rows l.kept l.t).size ≡ size_of l.t;
  writing : (base : Table → ℕ) (counts : List ℕ) (changes : Changes) (old : List SizedRows) (k : ℕ) → IsMadeFrom base counts changes → HasEnoughRows old counts → AreSized old
      → ((j : ℕ) → j < l.rows → slice_get changes (k + j) ≡ Some (key l.t (l.first + j), row_at (size_of l.t) l.bytes j))
      → AreWriting old l.fn.kept changes k → AreWriting old l.kept changes (k + l.j);
}
