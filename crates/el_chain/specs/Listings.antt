-- The entries of a history, transaction by transaction.
use Rattle.std.specs.Prelude.{ℕ, ◌||◌, List, [], ◌∷◌, ◌++◌, map, filter, if◌then◌else◌}
use Rattle.el_tx.specs.declared.types.Tx.{Tx}
use Rattle.el_tx.specs.Hashing.{txid}
use Rattle.el_chain.specs.declared.coin.Coin.{Coin}
use Rattle.el_chain.specs.declared.entry.Entry.{Entry}
use Rattle.el_chain.specs.Chains.{Chain}
use Rattle.el_chain.specs.Coins.{coins_after}
use Rattle.el_chain.specs.History.{Position, positions_from, funds, spends, concerns, entry}

-- the entry of a transaction at that height, before which these coins stand, if it concerns the script hash
abbrev pub entry_listed : List ℕ → ℕ → Tx → List Coin → List Entry
entry_listed script_hash height t coins =
    if funds script_hash t || spends script_hash coins t
    then record { height = height; txid = txid t } ∷ [] else []

-- the entries of transactions of a block of that height, before the first of which these coins stand
abbrev pub listed_in : List ℕ → ℕ → List Tx → List Coin → List Entry
listed_in script_hash height [] coins = []
listed_in script_hash height (t ∷ ts) coins =
    entry_listed script_hash height t coins ++ listed_in script_hash height ts (coins_after height t coins)

-- the entries of positions whose transaction concerns the script hash
abbrev pub entries_of : List ℕ → List Position → List Entry
entries_of script_hash ps = map entry (filter (concerns script_hash) ps)

-- the entries of blocks, the first of which has that height
abbrev pub listed_from : List ℕ → ℕ → Chain → List Coin → List Entry
listed_from script_hash height chain coins = entries_of script_hash (positions_from height chain coins)
