-- Which kept transactions concern a script hash, in the order in which clients see them (Electrum Protocol
-- 1.4, blockchain.scripthash.get_mempool).
use Rattle.std.specs.Prelude.{◌≡◌, ℕ, ◌+◌, Bool, not, ◌&&◌, if◌then◌else◌, List, [], ◌∷◌, reverse, replicate, option_to_list, flat_map}
use Rattle.std.specs.Option.{is_some}
use Rattle.std.specs.declared.cmp.Ordering.{Ordering}
use Rattle.std.specs.Ordering.{ordering_then, nat_cmp}
use Rattle.std.specs.Cmp.Lexicographic.{slice_cmp}
use Rattle.std.specs.declared.ops.Bound.TheVariants.{Included}
use Rattle.std.specs.BTreeSet.{BTreeSet, contains, keys_between}
use Rattle.indexmap.specs.IndexMap.{get}
use Rattle.el_base.specs.declared.hash.Hash32.{Hash32}
use Rattle.el_tx.specs.declared.types.Outpoint.{Outpoint}
use Rattle.el_tx.specs.Hashing.{same_outpoint}
use Rattle.el_chain.specs.Headers.{same_hash}
use Rattle.el_chain.specs.declared.coin.Coin.{Coin}
use Rattle.el_mempool.specs.declared.entry.PoolEntry.{PoolEntry}
use Rattle.el_mempool.specs.declared.held.Held.{Held}
use Rattle.el_mempool.specs.declared.held.KeptTx.{KeptTx}
use Rattle.el_mempool.specs.Unconfirmed.{has_script}
use Rattle.el_kept.specs.declared.listing.Listing.{Listing}
use Rattle.el_kept.specs.declared.table.Table.{Table}
use Rattle.el_kept.specs.Tables.{by_txid, slot, slot_at_script}

-- by the script hash, and then by the txid's bytes from the last to the first
abbrev pub listing_cmp : Listing → Listing → Ordering
listing_cmp a b =
    ordering_then (slice_cmp nat_cmp a.script.0 b.script.0) (slice_cmp nat_cmp a.reversed b.reversed)

-- the txid of a listed transaction
abbrev pub txid_of : Listing → Hash32
txid_of l = record { 0 = reverse l.reversed }

-- the transaction with that txid, under that script hash
abbrev pub listing : Hash32 → Hash32 → Listing
listing script id = record { script = script; reversed = reverse id.0 }

-- the listing is that of the transaction with that txid under that script hash
abbrev pub is_listing_of : Hash32 → Hash32 → Listing → Bool
is_listing_of script id l = same_hash script l.script && same_hash id (txid_of l)

-- it is one of these
abbrev pub is_in : BTreeSet Listing → Listing → Bool
is_in ls l = contains listing_cmp ls l

-- each entry is listed under each script hash that it concerns, and nothing else is
abbrev pub AreListed : BTreeSet Listing → List KeptTx → Type 0
AreListed ls ks = (l : Listing) → is_in ls l ≡ slot_at_script l.script.0 (by_txid (txid_of l) ks)

-- the least listing under the script hash
abbrev pub least_listing : Hash32 → Listing
least_listing script = record { script = script; reversed = replicate 32 0 }

-- the greatest listing under the script hash
abbrev pub greatest_listing : Hash32 → Listing
greatest_listing script = record { script = script; reversed = replicate 32 255 }

-- the listings under the script hash, in order
abbrev pub listings_under : Hash32 → BTreeSet Listing → List Listing
listings_under script ls = keys_between listing_cmp (Included (least_listing script))
    (Included (greatest_listing script)) ls

-- the entries that are listed, by a look-up
abbrev pub entries_listed : Table → List Listing → List KeptTx
entries_listed t ls = flat_map (λ (l : Listing). option_to_list (slot t (txid_of l))) ls

-- what clients see of an entry
abbrev pub pool_entry : KeptTx → PoolEntry
pool_entry k = record { txid = k.txid; flag = k.flag; fee = k.fee }

-- the output as a coin, with height 0
abbrev pub unconfirmed_coin : Outpoint → Held → Coin
unconfirmed_coin o h = record { outpoint = o; value = h.value; script = h.script; height = 0 }

-- the output has the script hash, and nobody takes it, by a look-up
abbrev pub is_out : Table → Hash32 → Outpoint → Held → Bool
is_out t script o h = has_script script.0 h && not (is_some (get same_outpoint t.spenders o))

-- those of an entry's outputs, the first of which has that index
abbrev pub outs_from : Table → Hash32 → Hash32 → ℕ → List Held → List Coin
outs_from t script id n [] = []
outs_from t script id n (h ∷ hs) =
    if is_out t script (record { txid = id; index = n }) h
    then unconfirmed_coin (record { txid = id; index = n }) h ∷ outs_from t script id (n + 1) hs
    else outs_from t script id (n + 1) hs
