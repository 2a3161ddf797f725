use Rattle.std.proofs.Common.{◌≡◌, List, drop}
use Rattle.el_chain.specs.declared.coin.Coin.{Coin}
use Rattle.el_chain.specs.Coins.{add_outputs}
use Rattle.el_plain.specs.within.OwnCoins.{HasOwnCoins}
use Rattle.el_plain.proofs.own_coins.add_outputs.Given as goal

-- the outputs before have put their coins in
abbrev pub invariant-loop-index : goal.invariant-loop-index
invariant-loop-index l = (coins : List Coin) → HasOwnCoins l.initial.own l.script_hash.0 coins
    → (mid : List Coin) × HasOwnCoins l.own l.script_hash.0 mid × (add_outputs l.txid l.height 0 l.outputs coins ≡ add_outputs l.txid l.height l.index (drop l.index l.outputs) mid)
