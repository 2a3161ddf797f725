use Rattle.std.proofs.Common.{◌≡◌}
use Rattle.el_index_tests.proofs.position_tests.are_newest.Given as goal

abbrev pub invariant-loop-number : goal.invariant-loop-number
invariant-loop-number l = l.txn.rows.ghost_name ≡ l.fn.txn.rows.ghost_name
