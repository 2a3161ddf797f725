use Rattle.std.proofs.Common.{◌≡◌, ◌++◌, drop}
use Rattle.el_chain.specs.CoinLaws.{coins_made}
use Rattle.el_audit.proofs.owned.coins_of.Given as goal

-- what was made, and what the outputs that are left make
abbrev pub invariant-loop-index : goal.invariant-loop-index
invariant-loop-index l = l.made.items ++ coins_made l.txid l.height l.index (drop l.index l.outputs) ≡ coins_made l.txid l.height 0 l.outputs
