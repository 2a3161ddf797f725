use Rattle.std.proofs.Common.{◌≡◌}
use Rattle.el_store_tests.proofs.edits.put_rows.Given as goal

abbrev pub invariant-loop-i : goal.invariant-loop-i
invariant-loop-i g l = (l.txn.rows.now ≡ l.fn.txn.rows.now) × (l.txn.rows.ghost_name ≡ l.fn.txn.rows.ghost_name)
