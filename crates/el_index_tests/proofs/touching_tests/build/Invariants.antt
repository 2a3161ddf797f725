use Rattle.std.proofs.Common.{◌≡◌}
use Rattle.el_index_tests.proofs.touching_tests.build.Given as goal

abbrev pub invariant-loop-step : goal.invariant-loop-step
invariant-loop-step g l = l.txn.rows.ghost_name ≡ l.initial.txn.rows.ghost_name
