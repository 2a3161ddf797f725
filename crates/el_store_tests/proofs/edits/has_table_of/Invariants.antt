use Rattle.el_store_tests.proofs.edits.has_table_of.Given as goal

abbrev pub invariant-loop-i : goal.invariant-loop-i
invariant-loop-i g l = g.R.Rows.is_live l.rows
