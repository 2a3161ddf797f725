use Rattle.el_store_tests.proofs.edits.has_rows_of.Given as goal

abbrev pub invariant-loop-t : goal.invariant-loop-t
invariant-loop-t g l = g.R.Rows.is_live l.rows
