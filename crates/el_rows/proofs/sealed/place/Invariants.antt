use Rattle.std.proofs.Common.{◌≡◌, slice_get, drop}
use Rattle.el_rows.specs.within.EditedTables.{all_tables, keys_over}
use Rattle.el_rows.proofs.sealed.place.Given as goal

abbrev pub invariant-loop-table : goal.invariant-loop-table
invariant-loop-table l = slice_get (keys_over l.rows (drop l.table-index all_tables)) l.left ≡ slice_get (keys_over l.rows all_tables) l.i
