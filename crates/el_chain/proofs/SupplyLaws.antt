-- How the supply rises.
use Rattle.std.proofs.Common.{◌≡◌, inl, inr, ℕ, ◌+◌, ◌≤◌, List, [], ◌∷◌, filter, refl, arith}
use Rattle.std.proofs.lemmas.Bool.{cases_Bool}
use Rattle.std.proofs.lemmas.List.Sums.{sum_by-cons}
use Rattle.el_base.specs.declared.hash.Hash32.{Hash32}
use Rattle.el_tx.specs.Encoding.{total_value}
use Rattle.el_tx.specs.declared.types.Outpoint.{Outpoint}
use Rattle.el_tx.specs.declared.types.TxIn.{TxIn}
use Rattle.el_tx.specs.declared.types.TxOut.{TxOut}
use Rattle.el_tx.specs.declared.types.Tx.{Tx}
use Rattle.el_tx.specs.Hashing.{txid, is_coinbase, same_outpoint}
use Rattle.el_chain.specs.declared.coin.Coin.{Coin}
use Rattle.el_chain.specs.Coins.{is_coin_of, without, add_coin, coin_made, spend_inputs, add_outputs, coins_left, coins_after, coins_after_all, supply}
use Rattle.el_chain.specs.CoinLaws.{inputs_take, GivesNoMore, AllGiveNoMore}
use Rattle.el_chain.proofs.CoinLists.{supply_more}

-- what is taken, and what is left
pub parted : (o : Outpoint) (coins : List Coin) → supply (without o coins) + supply (filter (is_coin_of o) coins) ≡ supply coins
parted o [] = refl
parted o (c ∷ cs) = elim (cases_Bool (same_outpoint c.outpoint o)) [
  | inl h ↦ let rest = parted o cs in rw h (omega arith)
  | inr h ↦ let rest = parted o cs in rw h (omega arith)
]

pub inputs_parted : (is : List TxIn) (coins : List Coin) → supply (spend_inputs is coins) + inputs_take is coins ≡ supply coins
inputs_parted [] coins = omega arith
inputs_parted (i ∷ is) coins =
    let one = parted i.from coins in
    let rest = inputs_parted is (without i.from coins) in
    omega arith

put_rises : (c : Coin) (coins : List Coin) → supply (add_coin c coins) ≤ supply coins + c.value
put_rises c coins =
    let more = supply_more (without c.outpoint coins) c in
    let part = parted c.outpoint coins in
    omega arith

outputs_rise : (id : Hash32) (height index : ℕ) (os : List TxOut) (coins : List Coin)
    → supply (add_outputs id height index os coins) ≤ supply coins + total_value os
outputs_rise id height index [] coins = omega arith
outputs_rise id height index (o ∷ os) coins =
    let one = put_rises (coin_made id height index o) coins in
    let rest = outputs_rise id height (index + 1) os (add_coin (coin_made id height index o) coins) in
    let joined = sum_by-cons (λ (x : TxOut). x.value) o os in
    omega arith

left_within : (t : Tx) (coins : List Coin) → supply (coins_left t coins) ≤ supply coins
left_within t coins = elim (cases_Bool (is_coinbase t)) [
  | inl h ↦ rw h (omega arith)
  | inr h ↦ let part = inputs_parted t.inputs coins in rw h (omega arith)
]

-- a transaction's outputs are all that can come
pub rises_by_outputs : (height : ℕ) (t : Tx) (coins : List Coin) → supply (coins_after height t coins) ≤ supply coins + total_value t.outputs
rises_by_outputs height t coins =
    let left = left_within t coins in
    let rise = outputs_rise (txid t) height 0 t.outputs (coins_left t coins) in
    omega arith

-- a transaction that gives no more than it takes
pub does_not_rise : (height : ℕ) (t : Tx) (coins : List Coin) → GivesNoMore t coins → supply (coins_after height t coins) ≤ supply coins
does_not_rise height t coins h =
    let taken = inputs_parted t.inputs coins in
    let rise = outputs_rise (txid t) height 0 t.outputs (spend_inputs t.inputs coins) in
    let less = h.less in
    rw (h.other) (omega arith)

-- transactions that do so
pub none_rise : (height : ℕ) (ts : List Tx) (coins : List Coin) → AllGiveNoMore height ts coins → supply (coins_after_all height ts coins) ≤ supply coins
none_rise height [] coins h = omega arith
none_rise height (t ∷ ts) coins h =
    let one = does_not_rise height t coins h.0 in
    let rest = none_rise height ts (coins_after height t coins) h.1 in
    omega arith

-- a block, of which only the first transaction brings new money
pub block_rises : (height : ℕ) (t : Tx) (ts : List Tx) (coins : List Coin) → AllGiveNoMore height ts (coins_after height t coins)
    → supply (coins_after_all height (t ∷ ts) coins) ≤ supply coins + total_value t.outputs
block_rises height t ts coins h =
    let one = rises_by_outputs height t coins in
    let rest = none_rise height ts (coins_after height t coins) h in
    omega arith
