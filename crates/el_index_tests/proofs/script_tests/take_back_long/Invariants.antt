use Rattle.std.proofs.Common.{◌≡◌}
use Rattle.el_index_tests.proofs.script_tests.take_back_long.Given as goal

abbrev pub invariant-loop : goal.invariant-loop
invariant-loop g l = l.txn.rows.ghost_name ≡ l.fn.txn.rows.ghost_name
