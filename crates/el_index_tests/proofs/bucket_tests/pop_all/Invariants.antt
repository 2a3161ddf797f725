use Rattle.std.proofs.Common.{◌≡◌}
use Rattle.el_index_tests.proofs.bucket_tests.pop_all.Given as goal

abbrev pub invariant-loop-left : goal.invariant-loop-left
invariant-loop-left g l = l.txn.rows.ghost_name ≡ l.fn.txn.rows.ghost_name
