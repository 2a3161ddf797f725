use Rattle.std.proofs.Common.{◌≡◌}
use Rattle.el_index_tests.proofs.undo_tests.add_outs.Given as goal

abbrev pub invariant-loop-index : goal.invariant-loop-index
invariant-loop-index l = l.txn.rows.ghost_name ≡ l.fn.txn.rows.ghost_name
