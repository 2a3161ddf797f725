use Rattle.std.proofs.Common.{◌≡◌}
use Rattle.el_index_tests.proofs.bucket_tests.add_heads.Given as goal

abbrev pub invariant-loop : goal.invariant-loop
invariant-loop l = l.txn.rows.ghost_name ≡ l.fn.txn.rows.ghost_name
