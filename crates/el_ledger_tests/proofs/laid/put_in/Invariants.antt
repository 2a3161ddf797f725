use Rattle.el_ledger_tests.proofs.laid.put_in.Given as goal

abbrev pub invariant-loop-some : goal.invariant-loop-some
invariant-loop-some g l = g.G.Ledger.is_live l.ledger
