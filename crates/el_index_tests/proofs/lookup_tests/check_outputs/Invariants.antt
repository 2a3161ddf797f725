use Rattle.std.proofs.Common.{◌≡◌}
use Rattle.el_index_tests.proofs.lookup_tests.check_outputs.Given as goal

abbrev pub invariant-loop-known : goal.invariant-loop-known
invariant-loop-known g l = l.txn.rows.ghost_name ≡ l.fn.txn.rows.ghost_name
