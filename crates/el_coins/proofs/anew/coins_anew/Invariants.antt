use Rattle.el_coins.proofs.CoinsAgain.{GoesAnew}
use Rattle.el_coins.proofs.anew.coins_anew.Given as goal

abbrev pub invariant-loop-index : goal.invariant-loop-index
invariant-loop-index l = GoesAnew l.none l.blocks l.index l.coins l.tally
