use Rattle.std.proofs.Common.{◌≡◌}
use Rattle.el_store_tests.proofs.edits.append_rows.Given as goal

abbrev pub invariant-loop : goal.invariant-loop
invariant-loop g l = (l.txn.rows.now ≡ l.fn.txn.rows.now) × (l.txn.rows.ghost_name ≡ l.fn.txn.rows.ghost_name)
