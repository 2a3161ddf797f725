-- Good chains: their blocks can be read transaction by transaction, and one block more keeps them good.
use Rattle.std.proofs.Common.{◌≡◌, inl, inr, ℕ, suc, ◌+◌, ◌<◌, ◌≤◌, Bool, true, false, nat_lt, List, [], ◌∷◌, ◌++◌, length, Option, None, Some, refl, ap, ◌∙◌, append_assoc, append-nil, arith, length-append}
use Rattle.std.proofs.lemmas.Bool.{cases_Bool, ltb-false}
use Rattle.std.specs.List.{AllByRecursion, flat_map}
use Rattle.std.specs.Option.{option_or}
use Rattle.std.specs.Int.{w32, w64, to_le_bytes}
use Rattle.el_base.specs.Compact.{compact}
use Rattle.el_tx.specs.declared.types.TxOut.{TxOut}
use Rattle.el_tx.specs.declared.types.TxIn.{TxIn}
use Rattle.el_tx.specs.declared.types.Tx.{Tx}
use Rattle.el_tx.specs.Hashing.{full_encoding}
use Rattle.el_tx.specs.Headers.{header_encoding}
use Rattle.el_tx.specs.Encoding.{counted, sized, outpoint_encoding, input_encoding, output_encoding, stack_encoding, version_encoding, body_encoding, has_witness, HasEncoding, max_money}
use Rattle.el_block.specs.declared.block.Block.{Block}
use Rattle.el_chain.specs.declared.placed.Placed.{Placed}
use Rattle.el_chain.specs.declared.coin.Coin.{Coin}
use Rattle.el_chain.specs.declared.fault.ConnectFault.TheVariants as refusal
use Rattle.el_block.specs.Blocks.{HasBlockEncoding, EncodesBlock}
use Rattle.el_chain.specs.Chains.{Chain}
use Rattle.el_block.specs.declared.limits.TheConstants.{MAX_BLOCK_WEIGHT}
use Rattle.el_chain.specs.RowCounts.{row_limit}
use Rattle.el_chain.specs.Coins.{coins_after_all, coins_from, coins}
use Rattle.el_chain.specs.Faults.{full, full_fault, missing_fault, first_fault, IsNext, AreNext, money_fault}
use Rattle.el_chain.specs.History.{positions, block_positions, first_start}
use Rattle.el_chain.specs.CoinLists.{FitsBlock}

-- each output has a text of some bytes
outputs_within : (os : List TxOut) → length os ≤ length (flat_map output_encoding os)
outputs_within [] = omega arith
outputs_within (o ∷ os) =
    let rest = outputs_within os in
    let joined = length-append (output_encoding o) (flat_map output_encoding os) in
    let one = length-append (to_le_bytes w64 o.value) (sized o.script) in
    let eight : length (to_le_bytes w64 o.value) ≡ 8 = refl in
    omega arith

-- so has each input
inputs_within : (is : List TxIn) → length is ≤ length (flat_map input_encoding is)
inputs_within [] = omega arith
inputs_within (i ∷ is) =
    let rest = inputs_within is in
    let joined = length-append (input_encoding i) (flat_map input_encoding is) in
    let out = length-append (outpoint_encoding i.from) (sized i.script ++ to_le_bytes w32 i.sequence) in
    let in_out = length-append (sized i.script) (to_le_bytes w32 i.sequence) in
    let four : length (to_le_bytes w32 i.sequence) ≡ 4 = refl in
    omega arith

-- what stands in a longer text
front_of : (xs ys : List ℕ) → length xs ≤ length (xs ++ ys)
front_of xs ys = let h = length-append xs ys in omega arith

back_of : (xs ys : List ℕ) → length ys ≤ length (xs ++ ys)
back_of xs ys = let h = length-append xs ys in omega arith

body_holds : (t : Tx) → length t.outputs + length t.inputs ≤ length (body_encoding t)
body_holds t =
    let os = outputs_within t.outputs in
    let is = inputs_within t.inputs in
    let after = back_of (compact (length t.outputs)) (flat_map output_encoding t.outputs) in
    let after_in = back_of (compact (length t.inputs)) (flat_map input_encoding t.inputs) in
    let all = length-append (counted input_encoding t.inputs) (counted output_encoding t.outputs) in
    omega arith

-- a transaction's outputs and inputs are no more than the bytes of its whole encoding
pub all_in_encoding : (t : Tx) → length t.outputs + length t.inputs ≤ length (full_encoding t)
all_in_encoding t = elim (cases_Bool (has_witness t)) [
  | inl h ↦
      let body = body_holds t in
      let rest = flat_map stack_encoding t.inputs ++ to_le_bytes w32 t.lock in
      let front = front_of (body_encoding t) rest in
      let after = back_of (version_encoding t) (0 ∷ 1 ∷ (body_encoding t ++ rest)) in
      rw h (omega arith)
  | inr h ↦
      let body = body_holds t in
      let front = front_of (body_encoding t) (to_le_bytes w32 t.lock) in
      let after = back_of (version_encoding t) (body_encoding t ++ to_le_bytes w32 t.lock) in
      rw h (omega arith)
]

-- transactions whose encodings together weigh no more than a block
pub all_fit : (ts : List Tx) → AllByRecursion HasEncoding ts → length (flat_map full_encoding ts) ≤ MAX_BLOCK_WEIGHT → AllByRecursion FitsBlock ts
all_fit [] each light = tt
all_fit (t ∷ ts) each light =
    let joined = length-append (full_encoding t) (flat_map full_encoding ts) in
    let all = all_in_encoding t in
    (record { encoded = each.0; few = omega arith; few_inputs = omega arith }, all_fit ts each.1 (omega arith))

pub fits_of_encoded : (b : Block) → HasBlockEncoding b → AllByRecursion FitsBlock b.txs
fits_of_encoded b h =
    let s : EncodesBlock h.0 b = h.1 in
    let light = s.light in
    let txs = back_of (compact (length b.txs)) (flat_map full_encoding b.txs) in
    let all = back_of (header_encoding b.header) (counted full_encoding b.txs) in
    all_fit b.txs s.text.each (omega arith)

-- one block more
pub next_more : (before chain : Chain) (b : Placed) → AreNext before chain → IsNext (before ++ chain) b.block → AreNext before (chain ++ b ∷ [])
next_more before [] b h next = (rw (append-nil before) at next, tt)
next_more before (x ∷ xs) b h next =
    (h.0, next_more (before ++ x ∷ []) xs b h.1 (rw (append_assoc before (x ∷ []) xs) next))

-- the coins after one block more
pub coins_more : (height : ℕ) (chain : Chain) (b : Placed) (before : List Coin)
    → coins_from height (chain ++ b ∷ []) before ≡ coins_after_all (height + length chain) b.block.txs (coins_from height chain before)
coins_more height [] b before = ap (λ n. coins_after_all n b.block.txs before) (let e : height ≡ height + 0 = omega arith in e)
coins_more height (x ∷ xs) b before =
    coins_more (height + 1) xs b (coins_after_all height x.block.txs before)
    ∙ ap (λ n. coins_after_all n b.block.txs (coins_from (height + 1) xs (coins_after_all height x.block.txs before)))
    (let e : height + 1 + length xs ≡ height + suc (length xs) = omega arith in e)

-- a fault that is none is none throughout
pub first_none : {X : Type 0} (a b : Option X) → option_or a b ≡ None → a ≡ None
first_none None b h = refl
first_none (Some x) b h = h

pub second_none : {X : Type 0} (a b : Option X) → option_or a b ≡ None → b ≡ None
second_none None b h = h
second_none (Some x) b h = absurd (some_none h)
  where
    some_none : Some x ≡ None → ⊥
    some_none e = cc

-- where a block has no fault, the table of blocks has room for it
pub has_room : (chain : Chain) (ts : List Tx) → first_fault (positions chain) (block_positions (length chain) ts (coins chain)) ≡ None → 1 ≤ length ts → length chain < row_limit 1
has_room chain [] h some = absurd (omega arith)
has_room chain (t ∷ ts) h some =
    let one = first_none _ _ h in
    let bounds = second_none (missing_fault 0 t (coins chain)) _ one in
    let rows = second_none _ (full_fault (length chain + 1) (positions chain ++ record { height = length chain; pos = 0; start = first_start (t ∷ ts); tx = t; before = coins chain } ∷ [])) bounds in
    by (nat_lt (row_limit 1) (length chain + 1)) refl (first_none (full 1 (length chain + 1)) _ rows)
  where
    by : (b : Bool) → nat_lt (row_limit 1) (length chain + 1) ≡ b → full 1 (length chain + 1) ≡ None → length chain < row_limit 1
    by true e none = let bad = rw e at none in absurd (some_none bad)
      where
        some_none : Some (refusal.Full 1 (row_limit 1)) ≡ None → ⊥
        some_none f = cc
    by false e none = let least = ltb-false (row_limit 1) (length chain + 1) e in omega arith

-- a sum without a fault
pub money_fits : (sum : ℕ) → money_fault sum ≡ None → sum ≤ max_money
money_fits sum none = by (nat_lt max_money sum) refl none
  where
    by : (b : Bool) → nat_lt max_money sum ≡ b → money_fault sum ≡ None → sum ≤ max_money
    by true e h = let bad = rw e at h in absurd (some_none bad)
      where
        some_none : Some (refusal.Money sum) ≡ None → ⊥
        some_none f = cc
    by false e h = ltb-false max_money sum e
