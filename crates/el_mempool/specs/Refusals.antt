-- Why a transaction does not join the kept ones.
use Rattle.std.specs.Prelude.{◌≡◌, ◌⊎◌, ℕ, ◌+◌, nat_lt, Bool, ◌||◌, if◌then◌else◌, List, [], ◌∷◌, length, find, sum_by, Option, None, Some, option_map}
use Rattle.std.specs.List.{list_any}
use Rattle.std.specs.Option.{option_or, is_some}
use Rattle.el_base.specs.declared.hash.Hash32.{Hash32}
use Rattle.el_tx.specs.declared.types.Outpoint.{Outpoint}
use Rattle.el_tx.specs.declared.types.TxIn.{TxIn}
use Rattle.el_tx.specs.declared.types.Tx.{Tx}
use Rattle.el_tx.specs.Encoding.{Encodes, total_value}
use Rattle.el_tx.specs.Hashing.{txid, same_outpoint, no_outpoint, full_encoding}
use Rattle.el_chain.specs.Chains.{Chain}
use Rattle.el_chain.specs.Headers.{same_hash}
use Rattle.el_mempool.specs.declared.entry.PoolLimits.{PoolLimits}
use Rattle.el_mempool.specs.declared.fault.PoolFault.{PoolFault}
use Rattle.el_mempool.specs.declared.fault.PoolFault.TheVariants as refusal
use Rattle.el_mempool.specs.Sift.{is_confirmed, named, any_takes, held_by, total_held}

-- this refusal, if the test holds
abbrev pub where_so : Bool → PoolFault → Option PoolFault
where_so test f = if test then Some f else None

-- an input names no output, as a coinbase's does
abbrev pub has_coinbase_form : Tx → Bool
has_coinbase_form t = list_any (λ (i : TxIn). same_outpoint i.from no_outpoint) t.inputs

-- a transaction with that txid is kept
abbrev pub is_kept : Hash32 → List Tx → Bool
is_kept id kept = list_any (λ (t : Tx). same_hash (txid t) id) kept

-- the kept one with that txid
abbrev pub kept_with : Hash32 → List Tx → Option Tx
kept_with id kept = find (λ (t : Tx). same_hash id (txid t)) kept

-- the first of these inputs that names neither a coin of the chain nor an output of a kept one
abbrev pub missing : Chain → List Tx → List TxIn → Option PoolFault
missing chain kept [] = None
missing chain kept (i ∷ is) =
    if is_some (named chain kept i.from) then missing chain kept is else Some (refusal.Missing i.from)

-- the kept one that takes the outpoint
abbrev pub spender_of : Outpoint → List Tx → Option Tx
spender_of o kept = find (λ (t : Tx). any_takes o t.inputs) kept

-- The first of these inputs, which are the last ones of a transaction with that txid, that a kept one takes
-- too, or that a later one of them takes too.
abbrev pub conflict : List Tx → Hash32 → List TxIn → Option PoolFault
conflict kept id [] = None
conflict kept id (i ∷ is) =
    option_or (option_map (λ (t : Tx). refusal.Conflict i.from (txid t)) (spender_of i.from kept))
    (option_or (where_so (any_takes i.from is) (refusal.Conflict i.from id)) (conflict kept id is))

-- the outputs hold more than the inputs
abbrev pub overspends : ℕ → ℕ → Option PoolFault
overspends taken given = where_so (nat_lt taken given) (refusal.Overspends taken given)

-- how many bytes the encodings have together
abbrev pub total_bytes : List Tx → ℕ
total_bytes kept = sum_by (λ (t : Tx). length (full_encoding t)) kept

-- so much is kept now, and with one more of that size a limit would be passed
abbrev pub over_limit : PoolLimits → ℕ → ℕ → ℕ → Option PoolFault
over_limit limits count bytes size =
    where_so (nat_lt limits.count (count + 1) || nat_lt limits.bytes (bytes + size))
    (refusal.Full count bytes)

-- for what the transaction is: a coinbase's form, one of the chain, one that is kept
abbrev pub known_refusal : Chain → List Tx → Tx → Option PoolFault
known_refusal chain kept t =
    option_or (where_so (has_coinbase_form t) refusal.CoinbaseForm)
    (option_or (where_so (is_confirmed chain (txid t)) refusal.Confirmed)
    (where_so (is_kept (txid t) kept) refusal.Known))

-- for its inputs: one that names nothing, one that takes what is taken
abbrev pub coin_refusal : Chain → List Tx → Tx → Option PoolFault
coin_refusal chain kept t = option_or (missing chain kept t.inputs) (conflict kept (txid t) t.inputs)

-- for its sums and its size
abbrev pub room_refusal : PoolLimits → Chain → List Tx → Tx → Option PoolFault
room_refusal limits chain kept t =
    option_or (overspends (total_held (held_by chain kept t.inputs)) (total_value t.outputs))
    (over_limit limits (length kept) (total_bytes kept) (length (full_encoding t)))

-- the first refusal of a transaction after the kept ones
abbrev pub tx_refusal : PoolLimits → Chain → List Tx → Tx → Option PoolFault
tx_refusal limits chain kept t =
    option_or (known_refusal chain kept t)
    (option_or (coin_refusal chain kept t) (room_refusal limits chain kept t))

-- The bytes do not join the kept ones, and this is the first refusal: they are not one whole transaction, or
-- that transaction's first.
abbrev pub IsTxRefused : PoolLimits → Chain → List Tx → List ℕ → PoolFault → Type 0
IsTxRefused limits chain kept bytes e =
    ((e ≡ refusal.Bad) × ((t : Tx) → Encodes bytes t → ⊥))
    ⊎ ((t : Tx) × Encodes bytes t × (tx_refusal limits chain kept t ≡ Some e))
