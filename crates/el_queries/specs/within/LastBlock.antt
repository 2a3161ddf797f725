-- What the numbered lists tell of the last transactions: the script hashes of their entries, and of the
-- outputs that they buried.
use Rattle.std.specs.Prelude.{◌<◌, ◌≤◌, ℕ, Bool, true, false, ◌&&◌, nat_lt, List, take, slice_get, Option, None, Some, option_and_then}
use Rattle.std.specs.List.{list_any, AllByRecursion}
use Rattle.std.specs.Option.{option_map_or}
use Rattle.el_base.specs.declared.hash.Hash32.{Hash32}
use Rattle.el_tx.specs.declared.types.Outpoint.{Outpoint}
use Rattle.el_chain.specs.Headers.{same_hash}
use Rattle.el_tables.specs.Disconnecting.{is_buried_by}
use Rattle.el_tables.specs.Lists.{ListedOut, ListedEntry, Lists, output_number, txid_at}
use Rattle.el_tables.specs.Queries.{outs_at}
use Rattle.el_tables.specs.Tables.{numbers_from}

-- the script hash is the one of that number
abbrev pub is_at : Hash32 → List Hash32 → ℕ → Bool
is_at s scripts n = option_map_or (same_hash s) (slice_get scripts n) false

-- the entry is of the script hash
abbrev pub is_entry_of_script : Hash32 → Lists → ListedEntry → Bool
is_entry_of_script s l e = is_at s l.scripts e.script

-- the link names no entry from that number on
abbrev pub is_below : ℕ → Option ℕ → Bool
is_below n None = true
is_below n (Some m) = nat_lt m n

-- Of entries, these are the ones of transactions from that number on, and those before them are of
-- transactions below it.
pub record AreLast (first : ℕ) (before own : List ListedEntry) : Type 0 where
  pub below : AllByRecursion (λ (e : ListedEntry). e.tx < first) before
  pub from : AllByRecursion (λ (e : ListedEntry). first ≤ e.tx) own

-- the transaction of that number buried the output, which is the script hash's
abbrev pub buried_own : Hash32 → ℕ → Lists → ListedOut → Bool
buried_own s tx l x = is_buried_by tx x.state && is_at s l.scripts x.script

-- it buried so the output that the outpoint names among the transactions before it
abbrev pub buries_at : Hash32 → ℕ → Lists → Outpoint → Bool
buries_at s tx l o =
    option_map_or (buried_own s tx l)
    (option_and_then (λ k. slice_get l.outs k) (output_number o (take tx l.txs))) false

-- by the output of that index
abbrev pub buries_by : Hash32 → ℕ → Lists → ℕ → Bool
buries_by s tx l index = buries_at s tx l (record { txid = txid_at tx l.txs; index = index })

-- by one of its outputs
abbrev pub buries : Hash32 → Lists → ℕ → Bool
buries s l tx = list_any (buries_by s tx l) (numbers_from 0 (outs_at tx l.txs))
