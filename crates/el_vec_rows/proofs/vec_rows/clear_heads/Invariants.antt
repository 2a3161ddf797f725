use Rattle.std.proofs.Common.{◌≡◌, ◌≢◌, ◌<◌, ℕ, [], length, get_or, None}
use Rattle.el_row_formats.specs.declared.table.Table.{Table}
use Rattle.el_row_formats.specs.RowBytes.{link_bytes}
use Rattle.el_row_formats.specs.Tables.{tables_listed}
use Rattle.el_vec_rows.proofs.vec_rows.clear_heads.Given as goal

abbrev pub invariant-loop-i : goal.invariant-loop-i
invariant-loop-i l = record {
  long : length (tables_listed l.rows l.t) ≡ length (tables_listed l.fn.rows l.t);
  done : (j : ℕ) → j < l.i → get_or (tables_listed l.rows l.t) j [] ≡ link_bytes None;
  others : (u : Table) → u ≢ l.t → tables_listed l.rows u ≡ tables_listed l.fn.rows u;
}
