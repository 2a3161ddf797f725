use Rattle.std.proofs.Common.{◌≡◌}
use Rattle.el_index_tests.proofs.script_tests.touch_all.Given as goal

abbrev pub invariant-loop-k : goal.invariant-loop-k
invariant-loop-k g l = l.txn.rows.ghost_name ≡ l.fn.txn.rows.ghost_name
