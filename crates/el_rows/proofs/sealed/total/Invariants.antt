use Rattle.std.proofs.Common.{◌≡◌, ◌+◌, length, drop}
use Rattle.el_rows.specs.within.EditedTables.{all_tables, keys_over}
use Rattle.el_rows.proofs.sealed.total.Given as goal

abbrev pub invariant-loop-t : goal.invariant-loop-t
invariant-loop-t l = l.total + length (keys_over l.rows (drop l.t-index all_tables)) ≡ length (keys_over l.rows all_tables)
