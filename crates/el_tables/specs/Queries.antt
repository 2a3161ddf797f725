-- What is asked of the numbered lists: the history, the coins and the balance of a script hash, the coin of
-- an outpoint, and what became of an output. A script hash stands as its 32 bytes in inner order.
use Rattle.std.specs.Prelude.{ℕ, ◌+◌, ◌&&◌, ◌==◌, List, [], ◌∷◌, ◌++◌, map, filter, take, drop, get_or, slice_get, Option, None, Some, option_map, option_and_then, if◌then◌else◌}
use Rattle.std.specs.Option.{option_or}
use Rattle.std.specs.List.{flat_map}
use Rattle.el_base.specs.declared.hash.Hash32.{Hash32}
use Rattle.el_tx.specs.declared.types.Outpoint.{Outpoint}
use Rattle.el_chain.specs.Chains.{zero_hash}
use Rattle.el_chain.specs.History.{Position, entry}
use Rattle.el_chain.specs.CoinLaws.{takes}
use Rattle.el_chain.specs.declared.coin.Coin.{Coin}
use Rattle.el_chain.specs.declared.entry.Entry.{Entry}
use Rattle.el_tables.specs.Lists.{ListedTx, ListedOut, ListedEntry, State, Lists, script_number, is_of_script, is_unspent, output_number, coin_number, txid_at, first_out_at, balance_of}
use Rattle.el_tables.specs.Lists.State.{Unspent, Spent, Buried}
use Rattle.el_tables.specs.ChainLists.{makes_outpoint, state_after}

-- 1. A script hash's entries

-- the height of the transaction of that number
abbrev pub height_at : ℕ → List ListedTx → ℕ
height_at tx txs = get_or (map (λ (t : ListedTx). t.height) txs) tx 0

-- an entry as a history shows it
abbrev pub entry_at : List ListedTx → ListedEntry → Entry
entry_at txs e = record { height = height_at e.tx txs; txid = txid_at e.tx txs }

-- the number of the script hash with these bytes
abbrev pub number_by : List ℕ → List Hash32 → ℕ
number_by script_hash scripts = script_number (record { 0 = script_hash }) scripts

-- the history of a script hash: its entries, in the order of their numbers
abbrev pub listed_history : List ℕ → Lists → List Entry
listed_history script_hash l =
    map (entry_at l.txs) (filter (is_of_script (number_by script_hash l.scripts)) l.entries)

-- 2. Coins

-- an output as the coin of that outpoint
abbrev pub shown_coin : Outpoint → Lists → ListedOut → Coin
shown_coin o l x = record {
  outpoint = o;
  value = x.value;
  script = get_or l.scripts x.script zero_hash;
  height = height_at x.tx l.txs;
}

-- the coin of an outpoint
abbrev pub listed_coin : Outpoint → Lists → Option Coin
listed_coin o l =
    option_map (shown_coin o l) (option_and_then (λ k. slice_get l.outs k) (coin_number o l.txs l.outs))

-- the balance of a script hash
abbrev pub listed_balance : List ℕ → Lists → ℕ
listed_balance script_hash l = balance_of (number_by script_hash l.scripts) l.outs

-- the coins of the script hash with that number among outputs of one transaction with that txid, of which the
-- first has that index
abbrev pub coins_among : ℕ → Hash32 → ℕ → Lists → List ListedOut → List Coin
coins_among script id index l [] = []
coins_among script id index l (x ∷ xs) =
    (if (x.script == script) && is_unspent x.state
    then shown_coin (record { txid = id; index = index }) l x ∷ [] else [])
    ++ coins_among script id (index + 1) l xs

-- how many outputs the transaction of that number has
abbrev pub outs_at : ℕ → List ListedTx → ℕ
outs_at tx txs = get_or (map (λ (t : ListedTx). t.outs) txs) tx 0

-- the coins of the script hash with that number among the outputs of an entry's transaction
abbrev pub coins_at : ℕ → Lists → ListedEntry → List Coin
coins_at script l e =
    coins_among script (txid_at e.tx l.txs) 0 l
    (take (outs_at e.tx l.txs) (drop (first_out_at e.tx l.txs) l.outs))

-- the coins of a script hash, found along its entries
abbrev pub listed_unspent : List ℕ → Lists → List Coin
listed_unspent script_hash l =
    flat_map (coins_at (number_by script_hash l.scripts) l)
    (filter (is_of_script (number_by script_hash l.scripts)) l.entries)

-- 3. What became of an output

-- what became of the newest output with that outpoint, where the first of the positions has that number; None
-- where there is none
abbrev pub newest_state : Outpoint → ℕ → List Position → Option State
newest_state o n [] = None
newest_state o n (p ∷ ps) =
    option_or (newest_state o (n + 1) ps)
    (if makes_outpoint o p then Some (state_after o (n + 1) ps) else None)

-- what became of the output that an outpoint names
abbrev pub listed_state : Outpoint → Lists → Option State
listed_state o l =
    option_map (λ (x : ListedOut). x.state)
    (option_and_then (λ k. slice_get l.outs k) (output_number o l.txs))

-- the transaction that spent an output, as a history shows it, by what became of the output
abbrev pub spender_by : List ListedTx → State → Option Entry
spender_by txs Unspent = None
spender_by txs (Spent n) =
    option_map (λ (t : ListedTx). record { height = t.height; txid = t.txid }) (slice_get txs n)
spender_by txs (Buried n) = None

-- the transaction that spent the output which an outpoint names
abbrev pub listed_spender : Outpoint → Lists → Option Entry
listed_spender o l = option_and_then (spender_by l.txs) (listed_state o l)

-- Who spent the newest output with an outpoint, after one more transaction: nobody where it makes such an
-- output, itself where it spends one, and else who did before.
abbrev pub spent_after : Outpoint → Option Entry → Position → Option Entry
spent_after o before p =
    if makes_outpoint o p then None else (if takes o p.tx then Some (entry p) else before)
