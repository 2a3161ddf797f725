use Rattle.std.proofs.Common.{◌≡◌, ℕ, List, drop}
use Rattle.std.specs.List.{list_any}
use Rattle.el_tx.specs.declared.types.TxIn.{TxIn}
use Rattle.el_chain.specs.History.{has_own}
use Rattle.el_chain.specs.declared.coin.Coin.{Coin}
use Rattle.el_plain.specs.within.CoinTables.{HasOwnOutpoints}
use Rattle.el_plain.proofs.history.takes_own.Given as goal

-- no input before takes one of the coins
abbrev pub invariant-loop-input : goal.invariant-loop-input
invariant-loop-input l = (script_hash : List ℕ) (coins : List Coin) → HasOwnOutpoints l.own script_hash coins
    → list_any (λ (x : TxIn). has_own script_hash coins x.from) l.inputs ≡ list_any (λ (x : TxIn). has_own script_hash coins x.from) (drop l.input-index l.inputs)
