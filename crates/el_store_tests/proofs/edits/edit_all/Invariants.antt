use Rattle.std.proofs.Common.{◌≡◌}
use Rattle.el_store_tests.proofs.edits.edit_all.Given as goal

abbrev pub invariant-loop-edit : goal.invariant-loop-edit
invariant-loop-edit g l = (l.txn.rows.now ≡ l.fn.txn.rows.now) × (l.txn.rows.ghost_name ≡ l.fn.txn.rows.ghost_name)
