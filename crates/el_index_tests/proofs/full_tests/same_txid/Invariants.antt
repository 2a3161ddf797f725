use Rattle.std.proofs.Common.{◌≡◌}
use Rattle.el_index_tests.proofs.full_tests.same_txid.Given as goal

abbrev pub invariant-loop-height : goal.invariant-loop-height
invariant-loop-height g l = l.txn.rows.ghost_name ≡ l.initial.txn.rows.ghost_name
