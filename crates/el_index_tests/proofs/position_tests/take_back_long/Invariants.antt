use Rattle.std.proofs.Common.{◌≡◌}
use Rattle.el_index_tests.proofs.position_tests.take_back_long.Given as goal

abbrev pub invariant-loop-i : goal.invariant-loop-i
invariant-loop-i g l = l.txn.rows.ghost_name ≡ l.fn.txn.rows.ghost_name
