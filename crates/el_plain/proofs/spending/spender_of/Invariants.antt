use Rattle.std.proofs.Common.{◌≡◌, List, drop}
use Rattle.std.specs.List.{fold}
use Rattle.el_chain.specs.declared.coin.Coin.{Coin}
use Rattle.el_chain.specs.History.{positions_from}
use Rattle.el_model.specs.Queries.{taken_after, spender}
use Rattle.el_plain.proofs.spending.spender_of.Given as goal

-- the blocks that are left go on from what was found
abbrev pub invariant-loop-height : goal.invariant-loop-height
invariant-loop-height l = (mid : List Coin) × (fold (taken_after l.o) l.found (positions_from l.height (drop l.height l.blocks) mid) ≡ spender l.blocks l.o)
