use Rattle.std.proofs.Common.{◌≡◌}
use Rattle.el_index_tests.proofs.history_tests.add_chain.Given as goal

abbrev pub invariant-loop-made : goal.invariant-loop-made
invariant-loop-made l = l.txn.rows.ghost_name ≡ l.fn.txn.rows.ghost_name
