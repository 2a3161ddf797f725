use Rattle.std.proofs.Common.{◌≡◌}
use Rattle.el_ledger_tests.proofs.plain_tests.filled.Given as goal

-- the edits are beside the same rows
abbrev pub invariant-loop : goal.invariant-loop
invariant-loop l =
    (l.txn.rows.now ≡ l.initial.txn.rows.now) × (l.txn.rows.ghost_name ≡ l.initial.txn.rows.ghost_name)

abbrev pub invariant-loop-table : goal.invariant-loop-table
invariant-loop-table l =
    (l.txn.rows.now ≡ l.initial.txn.rows.now) × (l.txn.rows.ghost_name ≡ l.initial.txn.rows.ghost_name)
