use Rattle.std.proofs.Common.{◌≡◌}
use Rattle.el_index_tests.proofs.history_tests.add_outputs.Given as goal

abbrev pub invariant-loop-value : goal.invariant-loop-value
invariant-loop-value l = l.txn.rows.ghost_name ≡ l.fn.txn.rows.ghost_name
