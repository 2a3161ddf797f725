use Rattle.std.proofs.Common.{◌≡◌}
use Rattle.el_index_tests.proofs.script_tests.is_as.Given as goal

abbrev pub invariant-loop-k : goal.invariant-loop-k
invariant-loop-k l = l.txn.rows.ghost_name ≡ l.fn.txn.rows.ghost_name
