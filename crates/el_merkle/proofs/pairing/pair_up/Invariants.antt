use Rattle.el_merkle.proofs.Rows.{Paired}
use Rattle.el_merkle.proofs.pairing.pair_up.Given as goal

abbrev pub invariant-loop-i : goal.invariant-loop-i
invariant-loop-i l = Paired l.fn.row.items l.i l.row.items
