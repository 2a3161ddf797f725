-- The index as plain numbered lists, and the steps that a transaction takes on them. The members of a list
-- are numbered from 0, in their order. There are no links, heads, counts or sums here: they follow from the
-- lists.
use Rattle.std.specs.Prelude.{ℕ, zero, suc, ◌+◌, ◌==◌, nat_lt, Bool, true, false, ◌&&◌, List, [], ◌∷◌, ◌++◌, map, take, get_or, Option, None, Some, option_map, option_and_then, if◌then◌else◌}
use Rattle.std.specs.Option.{option_or}
use Rattle.el_base.specs.declared.hash.Hash32.{Hash32}
use Rattle.el_tx.specs.declared.types.Outpoint.{Outpoint}
use Rattle.el_chain.specs.Chains.{zero_hash}
use Rattle.el_chain.specs.Headers.{same_hash}
use Rattle.el_chain.specs.RowCounts.{add_script}

-- A transaction: its txid; the height of its block; where its bytes begin in the block's, and how many they
-- are; the number of its first output, and how many outputs it has; how many outputs the transactions before
-- it spent, which is the number of its first input, and how many it spends.
pub record ListedTx : Type 0 where
  pub txid : Hash32
  pub height : ℕ
  pub start : ℕ
  pub len : ℕ
  pub first_out : ℕ
  pub outs : ℕ
  pub first_in : ℕ
  pub ins : ℕ

-- What became of an output: it is unspent, or the transaction of that number spent it, or that one made an
-- output with the same outpoint, which buried it (as the coinbases with one txid that BIP 30 tells of).
pub data State : Type 0 where
  Unspent : State
  Spent : ℕ → State
  Buried : ℕ → State

-- An output: the number of its transaction, its value in satoshi, the number of its script hash, and what
-- became of it.
pub record ListedOut : Type 0 where
  pub tx : ℕ
  pub value : ℕ
  pub script : ℕ
  pub state : State

-- An entry of a history: the transaction of that number funds or spends the script hash of that number.
pub record ListedEntry : Type 0 where
  pub tx : ℕ
  pub script : ℕ

-- All lists. An input stands as the number of the output that it spends. The scripts are script hashes.
pub record Lists : Type 0 where
  pub txs : List ListedTx
  pub outs : List ListedOut
  pub ins : List ℕ
  pub scripts : List Hash32
  pub entries : List ListedEntry

-- the lists of a chain without blocks
abbrev pub no_lists : Lists
no_lists = record { txs = []; outs = []; ins = []; scripts = []; entries = [] }

-- 1. Transactions

-- the transaction has the outpoint's txid, and more outputs than the outpoint's index
abbrev pub has_output : Outpoint → ListedTx → Bool
has_output o t = same_hash t.txid o.txid && nat_lt o.index t.outs

-- The number of the output that an outpoint names: it is one of the newest transaction that has such an
-- output.
abbrev pub output_number : Outpoint → List ListedTx → Option ℕ
output_number o [] = None
output_number o (t ∷ ts) =
    option_or (output_number o ts) (if has_output o t then Some (t.first_out + o.index) else None)

-- the number of the newest transaction with that txid, where the first of these has that number
abbrev pub newest_from : ℕ → Hash32 → List ListedTx → Option ℕ
newest_from n id [] = None
newest_from n id (t ∷ ts) =
    option_or (newest_from (n + 1) id ts) (if same_hash t.txid id then Some n else None)

-- the number of the newest transaction with that txid
abbrev pub newest_tx : Hash32 → List ListedTx → Option ℕ
newest_tx id txs = newest_from 0 id txs

-- the txid of the transaction of that number
abbrev pub txid_at : ℕ → List ListedTx → Hash32
txid_at tx txs = get_or (map (λ (t : ListedTx). t.txid) txs) tx zero_hash

-- the number of the first output of the transaction of that number
abbrev pub first_out_at : ℕ → List ListedTx → ℕ
first_out_at tx txs = get_or (map (λ (t : ListedTx). t.first_out) txs) tx 0

-- the lists with one transaction more
abbrev pub add_tx : ListedTx → Lists → Lists
add_tx t l = record l { txs = l.txs ++ t ∷ [] }

-- 2. Script hashes and entries

-- the number of a script hash: of the first that is this one; of none it is their count
abbrev pub script_number : Hash32 → List Hash32 → ℕ
script_number s [] = 0
script_number s (x ∷ xs) = if same_hash x s then 0 else suc (script_number s xs)

-- the entry is of the script hash with that number
abbrev pub is_of_script : ℕ → ListedEntry → Bool
is_of_script script e = e.script == script

-- the number of the transaction of the last entry of the script hash with that number
abbrev pub last_tx_of : ℕ → List ListedEntry → Option ℕ
last_tx_of script [] = None
last_tx_of script (e ∷ es) =
    option_or (last_tx_of script es) (if is_of_script script e then Some e.tx else None)

-- the number that was found is that of the transaction
abbrev pub is_tx : ℕ → Option ℕ → Bool
is_tx tx None = false
is_tx tx (Some n) = n == tx

-- the entry goes after the others, unless the last one of its script hash is of the same transaction
abbrev pub append_entry : ℕ → ℕ → List ListedEntry → List ListedEntry
append_entry tx script entries =
    if is_tx tx (last_tx_of script entries) then entries
    else entries ++ record { tx = tx; script = script } ∷ []

-- the transaction of that number funds or spends the script hash: this gets a number, and the two get an
-- entry, unless they have them
abbrev pub add_entry : Hash32 → ℕ → Lists → Lists
add_entry s tx l = record l {
  scripts = add_script s l.scripts;
  entries = append_entry tx (script_number s l.scripts) l.entries;
}

-- 3. Outputs

-- the state is neither spent nor buried
abbrev pub is_unspent : State → Bool
is_unspent Unspent = true
is_unspent (Spent n) = false
is_unspent (Buried n) = false

-- the output of that number is unspent
abbrev pub unspent_at : ℕ → List ListedOut → Bool
unspent_at k [] = false
unspent_at zero (x ∷ xs) = is_unspent x.state
unspent_at (suc k) (x ∷ xs) = unspent_at k xs

-- the outputs where that of that number has the state
abbrev pub with_state : State → ℕ → List ListedOut → List ListedOut
with_state s k [] = []
with_state s zero (x ∷ xs) = record x { state = s } ∷ xs
with_state s (suc k) (x ∷ xs) = x ∷ with_state s k xs

-- the number of the script hash of the output of that number
abbrev pub script_at : ℕ → List ListedOut → ℕ
script_at k [] = 0
script_at zero (x ∷ xs) = x.script
script_at (suc k) (x ∷ xs) = script_at k xs

-- that number, if its output is unspent
abbrev pub if_unspent : List ListedOut → ℕ → Option ℕ
if_unspent outs k = if unspent_at k outs then Some k else None

-- The number of the outpoint's coin: of the output that the outpoint names, if this is unspent.
abbrev pub coin_number : Outpoint → List ListedTx → List ListedOut → Option ℕ
coin_number o txs outs = option_and_then (if_unspent outs) (output_number o txs)

-- the transaction of the first number spends the output of the second
abbrev pub spend_output : ℕ → ℕ → Lists → Lists
spend_output by k l = record l { outs = with_state (Spent by) k l.outs; ins = l.ins ++ k ∷ [] }

-- the transaction of that number spends the outpoint's coin; None where the outpoint has none
abbrev pub spend_outpoint : Outpoint → ℕ → Lists → Option Lists
spend_outpoint o by l = option_map (λ k. spend_output by k l) (coin_number o l.txs l.outs)

-- the transaction of the first number buries the output of the second, if there is one
abbrev pub bury : ℕ → Option ℕ → List ListedOut → List ListedOut
bury by None outs = outs
bury by (Some k) outs = with_state (Buried by) k outs

-- the number of the coin that an output replaces, of the transaction of that number and with that index: the
-- coin of the same outpoint, which a transaction before made
abbrev pub replaced : ℕ → ℕ → Lists → Option ℕ
replaced tx index l = coin_number (record { txid = txid_at tx l.txs; index = index }) (take tx l.txs) l.outs

-- One output more: of the transaction of that number, with that index, value and number of its script hash.
-- It is unspent, and buries the coin that it replaces.
abbrev pub add_output : ℕ → ℕ → ℕ → ℕ → Lists → Lists
add_output tx index value script l = record l {
  outs = bury tx (replaced tx index l) l.outs
      ++ record { tx = tx; value = value; script = script; state = Unspent } ∷ [];
}

-- 4. Sums

-- what the output holds for the script hash with that number: its value, if it is its own and unspent
abbrev pub held : ℕ → ListedOut → ℕ
held script x = if (x.script == script) && is_unspent x.state then x.value else 0

-- the balance of the script hash with that number: what its unspent outputs hold
abbrev pub balance_of : ℕ → List ListedOut → ℕ
balance_of script [] = 0
balance_of script (x ∷ xs) = held script x + balance_of script xs

-- what all unspent outputs hold
abbrev pub unspent_sum : List ListedOut → ℕ
unspent_sum [] = 0
unspent_sum (x ∷ xs) = (if is_unspent x.state then x.value else 0) + unspent_sum xs
