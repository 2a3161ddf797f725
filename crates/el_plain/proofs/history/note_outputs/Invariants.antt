use Rattle.std.proofs.Common.{◌≡◌, ℕ, List, drop}
use Rattle.el_chain.specs.declared.coin.Coin.{Coin}
use Rattle.el_plain.specs.within.CoinTables.{HasOwnOutpoints}
use Rattle.el_chain.specs.Coins.{add_outputs}
use Rattle.el_plain.proofs.history.note_outputs.Given as goal

-- the outputs before have put their coins in
abbrev pub invariant-loop-index : goal.invariant-loop-index
invariant-loop-index l = (height : ℕ) (coins : List Coin) → HasOwnOutpoints l.initial.own l.script_hash.0 coins
    → (mid : List Coin) × HasOwnOutpoints l.own l.script_hash.0 mid × (add_outputs l.txid height 0 l.outputs coins ≡ add_outputs l.txid height l.index (drop l.index l.outputs) mid)
