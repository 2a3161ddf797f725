-- Which unconfirmed transactions are kept over a chain: those that a block after the chain could have, one
-- after the other in the order in which they came.
use Rattle.std.specs.Prelude.{ℕ, nat_lt, Bool, true, not, ◌&&◌, if◌then◌else◌, List, [], ◌∷◌, ◌++◌, filter, find, fold, slice_get, Option, None, option_map, option_to_list, sum_by}
use Rattle.std.specs.List.{list_any}
use Rattle.std.specs.Option.{option_or, is_some}
use Rattle.el_base.specs.declared.hash.Hash32.{Hash32}
use Rattle.el_tx.specs.declared.types.Outpoint.{Outpoint}
use Rattle.el_tx.specs.declared.types.TxIn.{TxIn}
use Rattle.el_tx.specs.declared.types.TxOut.{TxOut}
use Rattle.el_tx.specs.declared.types.Tx.{Tx}
use Rattle.el_tx.specs.Encoding.{total_value}
use Rattle.el_tx.specs.Hashing.{txid, same_outpoint}
use Rattle.el_chain.specs.declared.coin.Coin.{Coin}
use Rattle.el_chain.specs.Chains.{Chain}
use Rattle.el_chain.specs.Coins.{coins, is_coin_of, script_hash_of}
use Rattle.el_chain.specs.Headers.{same_hash}
use Rattle.el_chain.specs.History.{Position, positions}
use Rattle.el_mempool.specs.declared.held.Held.{Held}

-- what a coin holds
abbrev pub coin_held : Coin → Held
coin_held c = record { value = c.value; script = c.script }

-- what an output holds
abbrev pub output_held : TxOut → Held
output_held o = record { value = o.value; script = record { 0 = script_hash_of o } }

-- what these hold together, in satoshi
abbrev pub total_held : List Held → ℕ
total_held hs = sum_by (λ (h : Held). h.value) hs

-- the chain has a transaction with that txid
abbrev pub is_confirmed : Chain → Hash32 → Bool
is_confirmed chain id = list_any (λ (p : Position). same_hash (txid p.tx) id) (positions chain)

-- what the coin holds that the chain has for the outpoint
abbrev pub coin_named : Chain → Outpoint → Option Held
coin_named chain o = option_map coin_held (find (is_coin_of o) (coins chain))

-- what the transaction's output holds that the outpoint names
abbrev pub output_of : Outpoint → Tx → Option Held
output_of o t =
    if same_hash (txid t) o.txid then option_map output_held (slice_get t.outputs o.index) else None

-- what the output of a kept one holds that the outpoint names
abbrev pub output_among : Outpoint → List Tx → Option Held
output_among o [] = None
output_among o (t ∷ ts) = option_or (output_of o t) (output_among o ts)

-- what the outpoint names: a coin of the chain, or else an output of a kept one
abbrev pub named : Chain → List Tx → Outpoint → Option Held
named chain kept o = option_or (coin_named chain o) (output_among o kept)

-- one of these inputs takes the outpoint
abbrev pub any_takes : Outpoint → List TxIn → Bool
any_takes o inputs = list_any (λ (i : TxIn). same_outpoint o i.from) inputs

-- a kept one takes the outpoint
abbrev pub is_taken : Outpoint → List Tx → Bool
is_taken o kept = list_any (λ (t : Tx). any_takes o t.inputs) kept

-- Each of these inputs takes a coin of the chain or of a kept one that no kept one took, and no two take the
-- same.
abbrev pub each_takes : Chain → List Tx → List TxIn → Bool
each_takes chain kept [] = true
each_takes chain kept (i ∷ is) =
    (is_some (named chain kept i.from) && not (is_taken i.from kept))
    && (not (any_takes i.from is) && each_takes chain kept is)

-- what these inputs take, in their order
abbrev pub held_by : Chain → List Tx → List TxIn → List Held
held_by chain kept [] = []
held_by chain kept (i ∷ is) = option_to_list (named chain kept i.from) ++ held_by chain kept is

-- The transaction may be kept after these: its txid is not in the chain, each of its inputs takes a coin of
-- its own, and its outputs hold no more than its inputs.
abbrev pub may_join : Chain → List Tx → Tx → Bool
may_join chain kept t =
    not (is_confirmed chain (txid t)) && (each_takes chain kept t.inputs
    && not (nat_lt (total_held (held_by chain kept t.inputs)) (total_value t.outputs)))

-- the kept ones after one more came
abbrev pub joined : Chain → List Tx → Tx → List Tx
joined chain kept t = if may_join chain kept t then kept ++ t ∷ [] else kept

-- those of the transactions, in their order of arrival, that are kept over the chain
abbrev pub sift : Chain → List Tx → List Tx
sift chain list = fold (joined chain) [] list

-- the transactions without the one with that txid
abbrev pub other_than : Hash32 → List Tx → List Tx
other_than id list = filter (λ (t : Tx). not (same_hash (txid t) id)) list
