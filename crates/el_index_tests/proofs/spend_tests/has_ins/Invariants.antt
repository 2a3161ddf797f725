use Rattle.std.proofs.Common.{◌≡◌}
use Rattle.el_index_tests.proofs.spend_tests.has_ins.Given as goal

abbrev pub invariant-loop-i : goal.invariant-loop-i
invariant-loop-i l = l.txn.rows.ghost_name ≡ l.fn.txn.rows.ghost_name
