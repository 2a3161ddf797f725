use Rattle.std.proofs.Common.{◌≡◌}
use Rattle.el_index_tests.proofs.script_tests.take_back_all.Given as goal

abbrev pub invariant-loop-counts : goal.invariant-loop-counts
invariant-loop-counts g l = l.txn.rows.ghost_name ≡ l.fn.txn.rows.ghost_name
