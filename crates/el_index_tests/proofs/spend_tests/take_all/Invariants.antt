use Rattle.std.proofs.Common.{◌≡◌}
use Rattle.el_index_tests.proofs.spend_tests.take_all.Given as goal

abbrev pub invariant-loop-step : goal.invariant-loop-step
invariant-loop-step g l = l.txn.rows.ghost_name ≡ l.fn.txn.rows.ghost_name
