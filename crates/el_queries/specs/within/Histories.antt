-- What the entries of a script tell in the terms of the lists.
use Rattle.std.specs.Prelude.{ℕ, ◌+◌, ◌&&◌, ◌==◌, List, [], ◌∷◌, ◌++◌, take, drop, slice_get, Option, None, Some, option_map, option_to_list, if◌then◌else◌}
use Rattle.el_base.specs.declared.hash.Hash32.{Hash32}
use Rattle.el_chain.specs.declared.coin.Coin.{Coin}
use Rattle.el_chain.specs.declared.entry.Entry.{Entry}
use Rattle.el_tables.specs.Lists.{ListedTx, ListedOut, ListedEntry, is_unspent}
use Rattle.el_tables.specs.Queries.{outs_at}

-- 1. Entries

-- what a history shows of the transaction of that number, if it is there
abbrev pub shown_tx : List ListedTx → ℕ → List Entry
shown_tx txs tx =
    option_to_list
    (option_map (λ (t : ListedTx). record { height = t.height; txid = t.txid }) (slice_get txs tx))

-- 2. Coins

-- an output as a coin of the script hash, where the transaction made it with that index
abbrev pub coin_shown : Hash32 → ListedTx → ℕ → ListedOut → Coin
coin_shown s t index x = record {
  outpoint = record { txid = t.txid; index = index };
  value = x.value;
  script = s;
  height = t.height;
}

-- that coin, if the output is of the script with that number and unspent
abbrev pub own_coin : ℕ → Hash32 → ListedTx → ℕ → ListedOut → List Coin
own_coin script s t index x =
    if (x.script == script) && is_unspent x.state then coin_shown s t index x ∷ [] else []

-- the coins of the script among outputs of the transaction, of which the first has that index
abbrev pub own_coins : ℕ → Hash32 → ListedTx → ℕ → List ListedOut → List Coin
own_coins script s t index [] = []
own_coins script s t index (x ∷ xs) = own_coin script s t index x ++ own_coins script s t (index + 1) xs

-- the outputs of the transaction
abbrev pub outs_of_tx : ListedTx → List ListedOut → List ListedOut
outs_of_tx t outs = take t.outs (drop t.first_out outs)

-- the coins of the script that a transaction made, if it is there
abbrev pub coins_made_by : ℕ → Hash32 → List ListedOut → Option ListedTx → List Coin
coins_made_by script s outs None = []
coins_made_by script s outs (Some t) = own_coins script s t 0 (outs_of_tx t outs)

-- 3. Rows read

-- for an entry: its row and its transaction's
abbrev pub entry_rows : ListedEntry → ℕ
entry_rows e = 2

-- for the coins of an entry: those, and the outputs of its transaction
abbrev pub coin_rows : List ListedTx → ListedEntry → ℕ
coin_rows txs e = 2 + outs_at e.tx txs
