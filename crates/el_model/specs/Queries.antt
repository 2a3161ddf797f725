-- What a ledger is asked of a chain: by height, by txid, by outpoint and by script hash (Electrum Protocol
-- 1.4, blockchain.block, blockchain.scripthash and blockchain.transaction). Everything is read off the whole
-- chain.
use Rattle.std.specs.Prelude.{ℕ, ◌+◌, ◌*◌, ◌%◌, ◌==◌, not, if◌then◌else◌, List, [], ◌∷◌, length, map, filter, find, fold, take, Option, None, Some, option_map, option_and_then, slice_get, get_or, sum_by, flat_map}
use Rattle.std.specs.List.{list_any}
use Rattle.std.specs.Option.{option_or}
use Rattle.std.specs.Str.{bytes_eq}
use Rattle.el_base.specs.declared.hash.Hash32.{Hash32}
use Rattle.el_outside.specs.declared.archive.Place.{Place}
use Rattle.el_tx.specs.Hashing.{full_encoding, txid}
use Rattle.el_tx.specs.Headers.{header_encoding}
use Rattle.el_tx.specs.declared.types.Outpoint.{Outpoint}
use Rattle.el_tx.specs.declared.types.TxOut.{TxOut}
use Rattle.el_chain.specs.declared.placed.Placed.{Placed}
use Rattle.el_chain.specs.declared.coin.Coin.{Coin}
use Rattle.el_chain.specs.declared.entry.Entry.{Entry}
use Rattle.el_chain.specs.declared.node.Spot.{Spot}
use Rattle.el_block.specs.Blocks.{block_hash, txids}
use Rattle.el_chain.specs.Chains.{Chain, tip}
use Rattle.el_chain.specs.Coins.{is_coin_of, coins, supply, script_hash_of}
use Rattle.el_chain.specs.CoinLaws.{makes, takes}
use Rattle.el_chain.specs.History.{Position, positions, entry, concerns}

-- the height of the last block; none where there is no block
abbrev pub height_of : Chain → Option ℕ
height_of [] = None
height_of (b ∷ bs) = Some (length bs)

-- the hash of the last block; none where there is no block
abbrev pub tip_of : Chain → Option Hash32
tip_of [] = None
tip_of (b ∷ bs) = Some (tip (b ∷ bs))

-- the 80 bytes of the header at that height
abbrev pub header_at : Chain → ℕ → Option (List ℕ)
header_at chain height = option_map (λ (b : Placed). header_encoding b.block.header) (slice_get chain height)

-- the place of the block of that height
abbrev pub place_at : Chain → ℕ → Option Place
place_at chain height = option_map (λ (b : Placed). b.place) (slice_get chain height)

-- the block hashes of heights 0 to `last`
abbrev pub hashes_to : Chain → ℕ → List Hash32
hashes_to chain last = map (λ (b : Placed). block_hash b.block.header) (take (last + 1) chain)

-- the txids of the block of that height
abbrev pub txids_at : Chain → ℕ → Option (List Hash32)
txids_at chain height = option_map (λ (b : Placed). txids b.block.txs) (slice_get chain height)

-- the coin of the outpoint after the chain
abbrev pub coin_of : Chain → Outpoint → Option Coin
coin_of chain o = find (is_coin_of o) (coins chain)

-- the coins of the script hash after the chain, in chain order of their transactions and then by index
abbrev pub unspent : Chain → List ℕ → List Coin
unspent chain script_hash = filter (λ (c : Coin). bytes_eq c.script.0 script_hash) (coins chain)

-- what these coins hold together, in satoshi
abbrev pub balance : Chain → List ℕ → ℕ
balance chain script_hash = supply (unspent chain script_hash)

-- where the transaction of a position stands, whose block stands at that place
abbrev pub spot_of : Position → Place → Spot
spot_of p place = record {
  height = p.height;
  pos = p.pos;
  place = place;
  start = p.start;
  len = length (full_encoding p.tx);
}

-- the last of these positions whose transaction has that txid
abbrev pub newest : Hash32 → List Position → Option Position
newest id [] = None
newest id (p ∷ ps) = option_or (newest id ps) (if bytes_eq (txid p.tx).0 id.0 then Some p else None)

-- where the newest transaction with that txid stands
abbrev pub find_tx : Chain → Hash32 → Option Spot
find_tx chain id =
    option_and_then (λ (p : Position). option_map (spot_of p) (place_at chain p.height))
    (newest id (positions chain))

-- Who took the newest coin of the outpoint, after one more transaction: nobody where it makes such a coin,
-- itself where it takes one, and else who did before.
abbrev pub taken_after : Outpoint → Option Entry → Position → Option Entry
taken_after o before p =
    if list_any (is_coin_of o) (makes p) then None else (if takes o p.tx then Some (entry p) else before)

-- the transaction that took the coin of the newest output with that outpoint
abbrev pub spender : Chain → Outpoint → Option Entry
spender chain o = fold (taken_after o) None (positions chain)

-- the bucket of a hash among so many: the number of its first three bytes, the lowest first, modulo how many
-- there are
abbrev pub bucket_of : ℕ → List ℕ → ℕ
bucket_of buckets hash = (get_or hash 0 0 + 256 * get_or hash 1 0 + 65536 * get_or hash 2 0) % buckets

-- each of these hashes once
abbrev pub each_once : List (List ℕ) → List (List ℕ)
each_once [] = []
each_once (h ∷ hs) = h ∷ filter (λ other. not (bytes_eq other h)) (each_once hs)

-- the script hashes of the chain's outputs, each once
abbrev pub scripts : Chain → List (List ℕ)
scripts chain =
    each_once (flat_map (λ (p : Position). map (λ (o : TxOut). script_hash_of o) p.tx.outputs)
    (positions chain))

-- how many of these hashes are in the bucket of that one, among so many buckets
abbrev pub in_bucket : ℕ → List ℕ → List (List ℕ) → ℕ
in_bucket buckets hash hashes =
    length (filter (λ other. bucket_of buckets other == bucket_of buckets hash) hashes)

-- how many script hashes of the chain are in the bucket of that one, among so many buckets
abbrev pub scripts_in_bucket : Chain → ℕ → List ℕ → ℕ
scripts_in_bucket chain buckets script_hash = in_bucket buckets script_hash (scripts chain)

-- how many transactions of the chain have their txid in the bucket of that one, among so many buckets
abbrev pub txs_in_bucket : Chain → ℕ → List ℕ → ℕ
txs_in_bucket chain buckets id =
    in_bucket buckets id (map (λ (p : Position). (txid p.tx).0) (positions chain))

-- how many outputs the transactions have that the history of the script hash lists
abbrev pub outputs_of_history : Chain → List ℕ → ℕ
outputs_of_history chain script_hash =
    sum_by (λ (p : Position). length p.tx.outputs) (filter (concerns script_hash) (positions chain))

-- how many blocks a chain has, by the height of its last
abbrev pub blocks_in : Option ℕ → ℕ
blocks_in None = 0
blocks_in (Some top) = top + 1
