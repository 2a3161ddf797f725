-- What the ledger's tables of coins, and a script hash's own coins, stand for.
use Rattle.std.specs.Prelude.{◌≡◌, ℕ, List}
use Rattle.indexmap.specs.IndexSet.{IndexSet, contains}
use Rattle.el_tx.specs.declared.types.Outpoint.{Outpoint}
use Rattle.el_tx.specs.Hashing.{same_outpoint}
use Rattle.el_chain.specs.declared.coin.Coin.{Coin}
use Rattle.el_chain.specs.History.{has_own}

-- a set of outpoints has exactly those whose coins have the script hash
abbrev pub HasOwnOutpoints : {S : Type 0} → IndexSet Outpoint S → List ℕ → List Coin → Type 0
HasOwnOutpoints own script_hash coins = (o : Outpoint)
    → contains same_outpoint own o ≡ has_own script_hash coins o

-- this is so of the coins by which a set of outpoints has those with the script hash
abbrev pub IfOwnOutpoints : {S : Type 0} → IndexSet Outpoint S → List ℕ → (List Coin → Type 0) → Type 0
IfOwnOutpoints own script_hash P = (coins : List Coin) → HasOwnOutpoints own script_hash coins → P coins
