use Rattle.std.proofs.Common.{◌≡◌}
use Rattle.el_index_tests.proofs.undo_tests.all_rows.Given as goal

abbrev pub invariant-loop-table : goal.invariant-loop-table
invariant-loop-table l = l.txn.rows.ghost_name ≡ l.fn.txn.rows.ghost_name
