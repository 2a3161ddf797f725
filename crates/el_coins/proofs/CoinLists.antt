-- Lists of coins: look-ups, sums, and what taking and putting a coin does to them.
use Rattle.std.proofs.Common.{◌≡◌, inl, inr, ℕ, ◌+◌, ◌≤◌, Bool, true, false, cond, List, [], ◌∷◌, Option, None, Some, refl, ap, sym, ◌∙◌, arith, true≢false, is_some}
use Rattle.std.proofs.lemmas.Bool.{cases_Bool}
use Rattle.std.specs.Option.{option_flatten}
use Rattle.std.proofs.lemmas.Map.Made.{update_all_distinct}
use Rattle.indexmap.specs.IndexMap.{IndexMap, get, IsUnique, InsertsAll}
use Rattle.el_tx.specs.declared.types.Outpoint.{Outpoint}
use Rattle.el_tx.specs.Hashing.{same_outpoint}
use Rattle.el_chain.specs.declared.coin.Coin.{Coin}
use Rattle.el_chain.specs.Coins.{without, add_coin}
use Rattle.el_chain.specs.Faults.{has_coin}
use Rattle.el_coins.specs.CoinTables.{coin_by, coin_over, CoinsStandFor}
use Rattle.el_chain.specs.CoinLists.{coin_in, value_in}
use Rattle.el_chain.proofs.CoinLists.{in_without, in_put, once_without, once_put, without_none, supply_without, supply_put, outpoints_equal}

-- a coin is there exactly where the look-up has one
pub there : (o : Outpoint) (coins : List Coin) → has_coin o coins ≡ is_some (coin_in coins o)
there o [] = refl
there o (c ∷ cs) = elim (cases_Bool (same_outpoint c.outpoint o)) [
  | inl h ↦ rw h refl
  | inr h ↦ rw h (there o cs)
]

-- an outpoint's coin holds no more than all
pub value_within : (look : Outpoint → Option Coin) (sum : ℕ) (coins : List Coin) (o : Outpoint) → CoinsStandFor look sum coins → value_in (look o) ≤ sum
value_within look sum coins o h =
    let is = ap value_in (h.each o) in
    let out = supply_without o coins h.once in
    let total = h.total in
    omega arith

-- what stands for coins stands for those without one, or with one more, once its look-ups and its sum are changed so
pub taken : (look new : Outpoint → Option Coin) (sum sum_new : ℕ) (coins : List Coin) (p : Outpoint) → CoinsStandFor look sum coins
    → ((o : Outpoint) → new o ≡ cond (same_outpoint p o) None (look o)) → sum_new + value_in (look p) ≡ sum → CoinsStandFor new sum_new (without p coins)
taken look new sum sum_new coins p h says total = record {
  each = λ o. says o ∙ ap (cond (same_outpoint p o) None) (h.each o) ∙ sym (in_without p coins o);
  total =
      let is = ap value_in (h.each p) in
      let out = supply_without p coins h.once in
      let all = h.total in
      omega arith;
  once = once_without p coins h.once;
}

pub made : (look new : Outpoint → Option Coin) (sum sum_new : ℕ) (coins : List Coin) (c : Coin) → CoinsStandFor look sum coins
    → ((o : Outpoint) → new o ≡ cond (same_outpoint c.outpoint o) (Some c) (look o)) → sum_new + value_in (look c.outpoint) ≡ sum + c.value
    → CoinsStandFor new sum_new (add_coin c coins)
made look new sum sum_new coins c h says total = record {
  each = λ o. says o ∙ ap (cond (same_outpoint c.outpoint o) (Some c)) (h.each o) ∙ sym (in_put c coins o);
  total =
      let is = ap value_in (h.each c.outpoint) in
      let out = supply_put c coins h.once in
      let all = h.total in
      omega arith;
  once = once_put c coins h.once;
}

-- where an outpoint has no coin, nothing is taken
pub taken_none : (look : Outpoint → Option Coin) (sum : ℕ) (coins : List Coin) (p : Outpoint) → CoinsStandFor look sum coins → look p ≡ None
    → CoinsStandFor look sum (without p coins)
taken_none look sum coins p h none = rw (without_none p coins (sym (h.each p) ∙ none)) h

-- what a look-up's answer says of the coins
pub there_by : (look : Outpoint → Option Coin) (sum : ℕ) (coins : List Coin) (o : Outpoint) (found : Option Coin) (b : Bool) → CoinsStandFor look sum coins
    → found ≡ look o → is_some found ≡ b → b ≡ has_coin o coins
there_by look sum coins o found b h is some = sym some ∙ ap is_some (is ∙ h.each o) ∙ sym (there o coins)

pub none_by : (found looked : Option Coin) → found ≡ looked → is_some found ≡ false → looked ≡ None
none_by found looked is none = sym is ∙ empty found none
  where
    empty : (r : Option Coin) → is_some r ≡ false → r ≡ None
    empty None e = refl
    empty (Some x) e = absurd (true≢false e)

-- a table over which another one was laid
pub laid : {S : Type 0} (base new changes : IndexMap Outpoint (Option Coin) S) → IsUnique same_outpoint changes
    → InsertsAll same_outpoint base changes.entries new → (o : Outpoint) → coin_by new o ≡ coin_over base changes o
laid base new changes unique inserts o =
    ap option_flatten (inserts.0 o ∙ update_all_distinct outpoints_equal same_outpoint (λ _ _. refl) (get same_outpoint base) changes.entries o unique)
