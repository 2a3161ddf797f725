use Rattle.std.proofs.Common.{◌≡◌}
use Rattle.el_index_tests.proofs.script_tests.check_entries.Given as goal

abbrev pub invariant-loop-n : goal.invariant-loop-n
invariant-loop-n g l = l.txn.rows.ghost_name ≡ l.fn.txn.rows.ghost_name
