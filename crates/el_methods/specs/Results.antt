-- The result of each call, or why it is refused (Electrum Protocol 1.4), read off the whole chain and the
-- unconfirmed transactions that are kept.
use Rattle.std.specs.Prelude.{ℕ, ℤ, ◌+◌, ◌-◌, ◌==◌, min, nat_lt, nat_le, ◌||◌, ◌&&◌, not, Bool, true, false, if◌then◌else◌, List, [], ◌∷◌, ◌++◌, length, take, drop, map, flat_map, slice_get, Option, None, Some, option_map, ok_or, Result, Ok, Err, codes}
use Rattle.std.specs.Option.{option_or, is_some}
use Rattle.hex.specs.Hex.{encode_lower}
use Rattle.serde_json.specs.Data.{Data, null, number, string, array, item, no_items, object, unsigned, Members, no_members, put}
use Rattle.serde_json.specs.Find.{of_integer}
use Rattle.serde_json.specs.View.{items_of}
use Rattle.el_base.specs.declared.hash.Hash32.{Hash32}
use Rattle.el_base.specs.Shown.{shown}
use Rattle.el_tx.specs.declared.types.Tx.{Tx}
use Rattle.el_tx.specs.Hashing.{full_encoding}
use Rattle.el_tx.specs.Headers.{header_encoding}
use Rattle.el_merkle.specs.Merkle.{root, branch_of}
use Rattle.el_levels.specs.Blocks.{place_among}
use Rattle.el_chain.specs.Chains.{Chain}
use Rattle.el_chain.specs.Headers.{genesis}
use Rattle.el_chain.specs.History.{Position, positions, history}
use Rattle.el_chain.specs.declared.coin.Coin.{Coin}
use Rattle.el_chain.specs.declared.entry.Entry.{Entry}
use Rattle.el_chain.specs.declared.node.Node.{Node}
use Rattle.el_chain.specs.declared.placed.Placed.{Placed}
use Rattle.el_mempool.specs.declared.entry.PoolEntry.{PoolEntry}
use Rattle.el_mempool.specs.Fees.{histogram}
use Rattle.el_mempool.specs.Refusals.{kept_with}
use Rattle.el_mempool.specs.Unconfirmed.{pool_history}
use Rattle.el_status.specs.Statuses.{status}
use Rattle.el_view.specs.Views.{unspent}
use Rattle.el_view.specs.declared.views.Balance.{Balance}
use Rattle.el_model.specs.Queries.{header_at, height_of, hashes_to, newest, txids_at}
use Rattle.el_methods.specs.declared.limits.TheConstants.{ENTRY_LIMIT}
use Rattle.el_calls.specs.Methods.{◌>>=◌}
use Rattle.el_calls.specs.Versions.{text_of, protocol_max, protocol_min}
use Rattle.el_sessions.specs.Sessions.{Subscription, is_subscribed, subscribed}
use Rattle.el_methods.specs.declared.blocks.TheConstants.{HEADER_LIMIT}
use Rattle.el_sessions.specs.declared.session.TheConstants.{SUBSCRIPTION_LIMIT}
use Rattle.el_calls.specs.declared.refusal.Refusal.{Refusal}
use Rattle.el_calls.specs.declared.refusal.Refusal.TheVariants as refusal

-- 1. Values of JSON

-- bytes in hex
abbrev pub hex : List ℕ → Data
hex bytes = string (encode_lower bytes)

-- a hash as it is shown
abbrev pub shown_hash : Hash32 → Data
shown_hash h = string (shown h.0)

-- a number that is not below 0
abbrev pub whole : ℕ → Data
whole n = number (unsigned n)

-- a number that may be below 0
abbrev pub signed : ℤ → Data
signed n = number (of_integer n)

-- one member after the other is put in
abbrev pub put_all : Members → List (List ℕ × Data) → Members
put_all ms [] = ms
put_all ms (m ∷ more) = put_all (put m.0 m.1 ms) more

-- an object with these members
abbrev pub object_of : List (List ℕ × Data) → Data
object_of ms = object (put_all no_members ms)

-- a list of hashes, each as it is shown
abbrev pub hashes : List Hash32 → Data
hashes hs = array (items_of (map shown_hash hs))

-- 2. blockchain.block.header

-- a header, and the partners of its block's hash on the way to a Merkle root
abbrev pub proof_value : List Hash32 → Hash32 → List ℕ → Data
proof_value partners top header =
    object_of ((codes "branch", hashes partners) ∷ (codes "header", hex header)
    ∷ (codes "root", shown_hash top) ∷ [])

-- a header, and the proof of its block's hash among block hashes
abbrev pub proof_among : List Hash32 → ℕ → List ℕ → Data
proof_among list height header = proof_value (branch_of list height) (root list) header

-- among those up to the checkpoint
abbrev pub header_proof : Chain → ℕ → ℕ → List ℕ → Data
header_proof chain height cp_height header = proof_among (hashes_to chain cp_height) height header

-- the checkpoint is above the tip or below the header
abbrev pub is_bad_checkpoint : Chain → ℕ → ℕ → Bool
is_bad_checkpoint chain height cp_height = nat_le (length chain) cp_height || nat_lt cp_height height

-- the header alone where the checkpoint is 0, else with its proof
abbrev pub header_or_proof : Chain → ℕ → ℕ → List ℕ → Result Data Refusal
header_or_proof chain height cp_height header =
    if cp_height == 0 then Ok (hex header)
    else (if is_bad_checkpoint chain height cp_height then Err refusal.BadCheckpoint
    else Ok (header_proof chain height cp_height header))

-- what is made of the header of that height
abbrev pub of_header : Chain → ℕ → (List ℕ → Data) → Result Data Refusal
of_header chain height make = do
  header ← ok_or (header_at chain height) refusal.NoSuchHeight
  Ok (make header)

-- the header of that height, or there is none
abbrev pub block_header : Chain → ℕ → ℕ → Result Data Refusal
block_header chain height cp_height = do
  header ← ok_or (header_at chain height) refusal.NoSuchHeight
  header_or_proof chain height cp_height header

-- 3. blockchain.block.headers

-- how many headers are returned: no more than asked for, than a reply may have, and than there are from that
-- height on
abbrev pub header_count : Chain → ℕ → ℕ → ℕ
header_count chain start count = min count (min HEADER_LIMIT (length chain - start))

-- the bytes of so many headers from that height on
abbrev pub headers_bytes : Chain → ℕ → ℕ → List ℕ
headers_bytes chain start n =
    flat_map (λ (b : Placed). header_encoding b.block.header) (take n (drop start chain))

-- so many headers, how many, and how many a reply may have
abbrev pub headers_value : ℕ → List ℕ → Data
headers_value n bytes =
    object_of ((codes "count", whole n) ∷ (codes "hex", hex bytes) ∷ (codes "max", whole HEADER_LIMIT) ∷ [])

-- with the partners of the last one's block hash on the way to a Merkle root
abbrev pub headers_proof : List Hash32 → Hash32 → ℕ → List ℕ → Data
headers_proof partners top n bytes =
    object_of ((codes "branch", hashes partners) ∷ (codes "count", whole n)
    ∷ (codes "hex", hex bytes) ∷ (codes "max", whole HEADER_LIMIT)
    ∷ (codes "root", shown_hash top) ∷ [])

-- with the proof of the last one's block hash, of that height, among block hashes
abbrev pub headers_among : List Hash32 → ℕ → ℕ → List ℕ → Data
headers_among list last n bytes = headers_proof (branch_of list last) (root list) n bytes

-- the checkpoint is above the tip, or below the last of some headers
abbrev pub is_bad_for_headers : Chain → ℕ → ℕ → ℕ → Bool
is_bad_for_headers chain start n cp_height =
    nat_le (length chain) cp_height || (nat_lt 0 n && nat_lt (cp_height + 1) (start + n))

-- with their proof, unless the checkpoint is bad; no headers have none
abbrev pub headers_proved : Chain → ℕ → ℕ → ℕ → Result Data Refusal
headers_proved chain start n cp_height =
    if is_bad_for_headers chain start n cp_height then Err refusal.BadCheckpoint
    else (if n == 0 then Ok (headers_value n (headers_bytes chain start n))
    else Ok (headers_among (hashes_to chain cp_height) (start + n - 1) n (headers_bytes chain start n)))

-- the headers alone where the checkpoint is 0, else with their proof
abbrev pub some_headers : Chain → ℕ → ℕ → ℕ → Result Data Refusal
some_headers chain start n cp_height =
    if cp_height == 0 then Ok (headers_value n (headers_bytes chain start n))
    else headers_proved chain start n cp_height

-- as many of the headers from that height on as a reply may have
abbrev pub block_headers : Chain → ℕ → ℕ → ℕ → Result Data Refusal
block_headers chain start count cp_height =
    some_headers chain start (header_count chain start count) cp_height

-- 4. blockchain.headers.subscribe

-- a tip: its height, and its header
abbrev pub tip_value : ℕ → List ℕ → Data
tip_value height header = object_of ((codes "height", whole height) ∷ (codes "hex", hex header) ∷ [])

-- the tip, if there are blocks
abbrev pub headers_subscribe : Chain → Result Data Refusal
headers_subscribe chain = do
  height ← ok_or (height_of chain) refusal.NoBlocks
  header ← ok_or (header_at chain height) refusal.NoBlocks
  Ok (tip_value height header)

-- the answer, after which the client is told each new tip
abbrev pub told_tip : Result Data Refusal → Result (Data × Bool) Refusal
told_tip (Ok answer) = Ok (answer, true)
told_tip (Err r) = Err r

-- 5. blockchain.transaction.get

-- the newest of the chain
abbrev pub confirmed_of : Chain → Hash32 → Option Tx
confirmed_of chain id = option_map (λ (p : Position). p.tx) (newest id (positions chain))

-- a kept one, or else the newest of the chain
abbrev pub transaction_of : Chain → List Tx → Hash32 → Option Tx
transaction_of chain kept id = option_or (kept_with id kept) (confirmed_of chain id)

-- the transaction in the form with witnesses, in hex; what a node knows beside it is not served
abbrev pub transaction_get : Chain → List Tx → Hash32 → Bool → Result Data Refusal
transaction_get chain kept id true = Err refusal.VerboseNotServed
transaction_get chain kept id false = do
  t ← ok_or (transaction_of chain kept id) refusal.NoSuchTransaction
  Ok (hex (full_encoding t))

-- the answer is read from the block files: neither is it refused before, nor is the transaction kept
abbrev pub is_in_files : List Tx → Hash32 → Bool → Bool
is_in_files kept id verbose = not (verbose || is_some (kept_with id kept))

-- 6. blockchain.transaction.get_merkle and blockchain.transaction.id_from_pos

-- a place in the block of that height, and the branch from there
abbrev pub place_value : List Hash32 → ℕ → ℕ → Data
place_value partners height pos =
    object_of ((codes "block_height", whole height) ∷ (codes "merkle", hashes partners)
    ∷ (codes "pos", whole pos) ∷ [])

-- the place among the txids of a block, and the branch from there
abbrev pub merkle_value : List Hash32 → ℕ → ℕ → Data
merkle_value ids height pos = place_value (branch_of ids pos) height pos

-- the place and the branch of the transaction in the block of that height
abbrev pub get_merkle : Chain → Hash32 → ℕ → Result Data Refusal
get_merkle chain id height = do
  ids ← ok_or (txids_at chain height) refusal.NoSuchHeight
  pos ← ok_or (place_among id ids) refusal.NotInThatBlock
  Ok (merkle_value ids height pos)

-- a txid with its branch
abbrev pub id_with_branch : List Hash32 → Hash32 → Data
id_with_branch partners id =
    object_of ((codes "merkle", hashes partners) ∷ (codes "tx_hash", shown_hash id) ∷ [])

-- the txid, with its branch where that is asked for
abbrev pub id_value : List Hash32 → ℕ → Hash32 → Bool → Data
id_value ids pos id false = shown_hash id
id_value ids pos id true = id_with_branch (branch_of ids pos) id

-- the txid at that place in the block of that height
abbrev pub id_from_pos : Chain → ℕ → ℕ → Bool → Result Data Refusal
id_from_pos chain height pos merkle = do
  ids ← ok_or (txids_at chain height) refusal.NoSuchHeight
  id ← ok_or (slice_get ids pos) refusal.NoSuchPosition
  Ok (id_value ids pos id merkle)

-- 7. blockchain.scripthash.get_balance, get_history, get_mempool and listunspent

-- a list of these values, which may not be too long
abbrev pub list_within_limit : List Data → Result Data Refusal
list_within_limit values =
    if nat_lt ENTRY_LIMIT (length values) then Err refusal.HistoryTooLarge else Ok (array (items_of values))

-- the sum of the confirmed coins, and by how much the unconfirmed transactions change it
abbrev pub balance_value : Balance → Data
balance_value sums =
    object_of ((codes "confirmed", whole sums.confirmed)
    ∷ (codes "unconfirmed", signed sums.unconfirmed) ∷ [])

-- an entry of the confirmed history: its height and its txid
abbrev pub entry_value : Entry → Data
entry_value e = object_of ((codes "height", whole e.height) ∷ (codes "tx_hash", shown_hash e.txid) ∷ [])

-- an unconfirmed one: its flag stands as its height
abbrev pub pool_value : PoolEntry → Data
pool_value e =
    object_of ((codes "fee", whole e.fee) ∷ (codes "height", signed e.flag)
    ∷ (codes "tx_hash", shown_hash e.txid) ∷ [])

-- a coin, whose height is 0 where it is unconfirmed
abbrev pub coin_value : Coin → Data
coin_value c =
    object_of ((codes "height", whole c.height) ∷ (codes "tx_hash", shown_hash c.outpoint.txid)
    ∷ (codes "tx_pos", whole c.outpoint.index) ∷ (codes "value", whole c.value) ∷ [])

-- these confirmed ones in order, and then these unconfirmed ones
abbrev pub both_values : List Entry → List PoolEntry → List Data
both_values confirmed unconfirmed = map entry_value confirmed ++ map pool_value unconfirmed

-- the confirmed history, and then the unconfirmed one
abbrev pub get_history : Chain → List Tx → List ℕ → Result Data Refusal
get_history chain kept script_hash =
    list_within_limit (both_values (history chain script_hash) (pool_history chain kept script_hash))

-- the unconfirmed history alone
abbrev pub get_mempool : Chain → List Tx → List ℕ → Result Data Refusal
get_mempool chain kept script_hash = list_within_limit (map pool_value (pool_history chain kept script_hash))

-- the coins, with the unconfirmed ones and without those that unconfirmed transactions take
abbrev pub list_unspent : Chain → List Tx → List ℕ → Result Data Refusal
list_unspent chain kept script_hash = list_within_limit (map coin_value (unspent chain kept script_hash))

-- 8. blockchain.scripthash.subscribe

-- as it is told: by 64 hex digits, the first byte first
abbrev pub told : Option Hash32 → Data
told None = null
told (Some h) = hex h.0

-- it is new, and as many are held as there may be
abbrev pub is_one_too_many : List Subscription → Hash32 → Bool
is_one_too_many subs s = nat_le SUBSCRIPTION_LIMIT (length subs) && not (is_subscribed s subs)

-- the answer, and the subscriptions after it
abbrev pub script_hash_subscribe :
    Chain → List Tx → List Subscription → Hash32 → Result (Data × List Subscription) Refusal
script_hash_subscribe chain kept subs s =
    if is_one_too_many subs s then Err refusal.TooManySubscriptions
    else Ok (told (status chain kept s.0), subscribed s (status chain kept s.0) subs)

-- 9. server.features

-- what the server is, on the chain that begins with this hash
abbrev pub features_value : Hash32 → Data
features_value genesis =
    object_of ((codes "genesis_hash", shown_hash genesis) ∷ (codes "hash_function", string (codes "sha256"))
    ∷ (codes "hosts", object no_members) ∷ (codes "protocol_max", string (text_of protocol_max))
    ∷ (codes "protocol_min", string (text_of protocol_min)) ∷ (codes "pruning", null)
    ∷ (codes "server_version", string (codes "el_serve 1.0")) ∷ [])

-- of the headers that were found
abbrev pub features : List Node → Result Data Refusal
features found = do
  first ← ok_or (genesis found) refusal.NoBlocks
  Ok (features_value first.hash)

-- 10. mempool.get_fee_histogram

-- an edge of fee rates, and the sum of the sizes of those that have it
abbrev pub edge_value : ℕ × ℕ → Data
edge_value row = array (item (whole row.0) (item (whole row.1) no_items))

-- the fee histogram of the kept transactions, by falling edge
abbrev pub fee_histogram : Chain → List Tx → Data
fee_histogram chain kept = array (items_of (map edge_value (histogram chain kept)))
