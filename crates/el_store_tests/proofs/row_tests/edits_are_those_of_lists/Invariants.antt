use Rattle.el_store_tests.proofs.row_tests.edits_are_those_of_lists.Given as goal

abbrev pub invariant-loop : goal.invariant-loop
invariant-loop g l = g.R.Rows.is_live l.rows
