use Rattle.std.proofs.Common.{◌≡◌}
use Rattle.el_store_tests.proofs.row_tests.shows_all.Given as goal

abbrev pub invariant-loop-t : goal.invariant-loop-t
invariant-loop-t g l = g.R.Rows.is_live l.txn.rows.now × (l.txn.rows.ghost_name ≡ l.fn.txn.rows.ghost_name)
