use Rattle.std.proofs.Common.{◌≡◌, length}
use Rattle.el_index_tests.proofs.spend_tests.undo.Given as goal

abbrev pub invariant-loop-step : goal.invariant-loop-step
invariant-loop-step g l = l.txn.rows.ghost_name ≡ l.fn.txn.rows.ghost_name

abbrev pub decreases-loop-step : goal.decreases-loop-step
decreases-loop-step g l = length l.done.items
