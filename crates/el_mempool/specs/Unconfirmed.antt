-- What clients see of the unconfirmed transactions (Electrum Protocol 1.4,
-- blockchain.scripthash.get_mempool and blockchain.scripthash.listunspent). A script hash stands in inner
-- order.
use Rattle.std.specs.Prelude.{ℕ, ◌-◌, ℤ, pos, negsuc, Bool, not, ◌&&◌, ◌||◌, if◌then◌else◌, List, [], ◌∷◌, map, filter, flat_map}
use Rattle.std.specs.List.{list_any}
use Rattle.std.specs.Option.{is_some}
use Rattle.std.specs.declared.cmp.Ordering.{Ordering}
use Rattle.std.specs.Ordering.{is_gt, nat_cmp}
use Rattle.std.specs.Cmp.Lexicographic.{slice_cmp}
use Rattle.std.specs.Str.{bytes_eq}
use Rattle.el_base.specs.Shown.{shown}
use Rattle.el_tx.specs.declared.types.TxIn.{TxIn}
use Rattle.el_tx.specs.declared.types.Tx.{Tx}
use Rattle.el_tx.specs.Encoding.{total_value}
use Rattle.el_tx.specs.Hashing.{txid}
use Rattle.el_chain.specs.declared.coin.Coin.{Coin}
use Rattle.el_chain.specs.Chains.{Chain}
use Rattle.el_chain.specs.CoinLaws.{coins_made}
use Rattle.el_chain.specs.History.{funds}
use Rattle.el_mempool.specs.declared.held.Held.{Held}
use Rattle.el_mempool.specs.declared.entry.PoolEntry.{PoolEntry}
use Rattle.el_mempool.specs.Sift.{output_among, is_taken, held_by, total_held}

-- the `height` of the protocol: -1 where an input is an output of a kept one, else 0
abbrev pub flag : List Tx → Tx → ℤ
flag kept t =
    if list_any (λ (i : TxIn). is_some (output_among i.from kept)) t.inputs then negsuc 0 else pos 0

-- what the inputs hold less what the outputs hold, in satoshi
abbrev pub fee : Chain → List Tx → Tx → ℕ
fee chain kept t = total_held (held_by chain kept t.inputs) - total_value t.outputs

-- what it holds has the script hash
abbrev pub has_script : List ℕ → Held → Bool
has_script script_hash h = bytes_eq h.script.0 script_hash

-- the transaction has an output with the script hash, or takes a coin with it
abbrev pub concerns_script : Chain → List Tx → List ℕ → Tx → Bool
concerns_script chain kept script_hash t =
    funds script_hash t || list_any (has_script script_hash) (held_by chain kept t.inputs)

-- an element is put before the first of a list in that order which isn't less
abbrev pub put : {X : Type 0} → (X → X → Ordering) → X → List X → List X
put cmp x [] = x ∷ []
put cmp x (y ∷ ys) = if is_gt (cmp x y) then y ∷ put cmp x ys else x ∷ y ∷ ys

-- the elements in that order
abbrev pub in_order : {X : Type 0} → (X → X → Ordering) → List X → List X
in_order cmp [] = []
in_order cmp (x ∷ xs) = put cmp x (in_order cmp xs)

-- transactions compare by the texts that show their txids
abbrev pub shown_cmp : Tx → Tx → Ordering
shown_cmp t u = slice_cmp nat_cmp (shown (txid t).0) (shown (txid u).0)

-- the transactions by their shown txids
abbrev pub by_shown : List Tx → List Tx
by_shown ts = in_order shown_cmp ts

-- what clients see of a kept one
abbrev pub entry : Chain → List Tx → Tx → PoolEntry
entry chain kept t = record { txid = txid t; flag = flag kept t; fee = fee chain kept t }

-- the kept ones that fund or spend the script hash, by their shown txids
abbrev pub pool_history : Chain → List Tx → List ℕ → List PoolEntry
pool_history chain kept script_hash =
    map (entry chain kept) (filter (concerns_script chain kept script_hash) (by_shown kept))

-- the coins that the outputs of an unconfirmed transaction are, with height 0
abbrev pub made : Tx → List Coin
made t = coins_made (txid t) 0 0 t.outputs

-- the coins of the script hash that kept ones make and no kept one takes, by the shown txid and then by index
abbrev pub pool_unspent : List Tx → List ℕ → List Coin
pool_unspent kept script_hash =
    filter (λ (c : Coin). bytes_eq c.script.0 script_hash && not (is_taken c.outpoint kept))
    (flat_map made (by_shown kept))
