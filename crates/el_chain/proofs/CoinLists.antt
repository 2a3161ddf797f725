-- Lists of coins: look-ups, sums, and what taking and putting a coin does to them.
use Rattle.std.proofs.Common.{◌≡◌, inl, inr, ℕ, ◌+◌, Bool, true, false, cond, List, [], ◌∷◌, ◌++◌, Option, None, Some, refl, ap, sym, ◌∙◌, arith, eq-eqb, eqb-true, true≢false, is_some, ◌==◌}
use Rattle.std.proofs.lemmas.Bool.{cases_Bool, and_parts}
use Rattle.std.proofs.lemmas.Slice.Eq.{bytes_eq-Decides}
use Rattle.std.specs.Str.{bytes_eq}
use Rattle.std.specs.Cmp.{IsEquivalence}
use Rattle.el_base.specs.declared.hash.Hash32.{Hash32}
use Rattle.el_tx.specs.declared.types.Outpoint.{Outpoint}
use Rattle.el_tx.specs.declared.types.TxIn.{TxIn}
use Rattle.el_tx.specs.declared.types.TxOut.{TxOut}
use Rattle.el_tx.specs.declared.types.Tx.{Tx}
use Rattle.el_tx.specs.Hashing.{same_outpoint, txid, is_coinbase}
use Rattle.el_chain.specs.declared.coin.Coin.{Coin}
use Rattle.el_chain.specs.Chains.{Chain}
use Rattle.el_chain.specs.Coins.{without, add_coin, coin_made, spend_inputs, add_outputs, coins_left, coins_after, coins_after_all, coins_from, supply}
use Rattle.el_chain.specs.CoinLists.{coin_in, value_in, AreOnce}

-- one outpoint is the other exactly where they are equal
pub same_from : (a b : Outpoint) → a ≡ b → same_outpoint a b ≡ true
same_from a b e = rw (e, (bytes_eq-Decides b.txid.0 b.txid.0).1 refl, eq-eqb b.index b.index refl) refl

pub same_gives : (a b : Outpoint) → same_outpoint a b ≡ true → a ≡ b
same_gives a b h =
    let parts = and_parts (bytes_eq a.txid.0 b.txid.0) (a.index == b.index) h in
    let ids = (bytes_eq-Decides a.txid.0 b.txid.0).0 parts.0 in
    let indexes = eqb-true a.index b.index parts.1 in
    the_same ids indexes
  where
    the_same : a.txid.0 ≡ b.txid.0 → a.index ≡ b.index → a ≡ b
    the_same ids indexes =
        ap (λ (bytes : List ℕ). record { txid = record { 0 = bytes }; index = a.index }) ids ∙ ap (λ (n : ℕ). record { txid = b.txid; index = n }) indexes

pub same_self : (a : Outpoint) → same_outpoint a a ≡ true
same_self a = same_from a a refl

pub differs : (b : Bool) → (b ≡ true → ⊥) → b ≡ false
differs true h = absurd (h refl)
differs false h = refl

-- what is apart from one outpoint
pub apart_turned : (a b : Outpoint) → same_outpoint a b ≡ false → same_outpoint b a ≡ false
apart_turned a b h = differs (same_outpoint b a) (λ e. true≢false (sym (same_from a b (sym (same_gives b a e))) ∙ h))

-- the coin that is left for an outpoint
pub in_without : (p : Outpoint) (coins : List Coin) (o : Outpoint)
    → coin_in (without p coins) o ≡ cond (same_outpoint p o) None (coin_in coins o)
in_without p [] o = elim (cases_Bool (same_outpoint p o)) [
  | inl h ↦ rw h refl
  | inr h ↦ rw h refl
]
in_without p (c ∷ cs) o = elim (cases_Bool (same_outpoint c.outpoint p)) [
  | inl h ↦
      let is = same_gives c.outpoint p h in
      rw h (in_without p cs o ∙ by_p is (same_outpoint p o) refl)
  | inr h ↦ rw h (by_o h (in_without p cs o) (same_outpoint c.outpoint o) refl)
]
  where
    by_p : c.outpoint ≡ p → (b : Bool) → same_outpoint p o ≡ b
        → cond (same_outpoint p o) None (coin_in cs o) ≡ cond (same_outpoint p o) None (cond (same_outpoint c.outpoint o) (Some c) (coin_in cs o))
    by_p is true e = rw e refl
    by_p is false e = rw (e, is, e) refl

    by_o : same_outpoint c.outpoint p ≡ false → coin_in (without p cs) o ≡ cond (same_outpoint p o) None (coin_in cs o) → (b : Bool) → same_outpoint c.outpoint o ≡ b
        → cond (same_outpoint c.outpoint o) (Some c) (coin_in (without p cs) o) ≡ cond (same_outpoint p o) None (cond (same_outpoint c.outpoint o) (Some c) (coin_in cs o))
    by_o apart rest true e =
        let is = same_gives c.outpoint o e in
        rw (e, ← is, apart_turned c.outpoint p apart) refl
    by_o apart rest false e = rw e rest

-- the coin for an outpoint where one more stands after
pub in_more : (coins : List Coin) (c : Coin) (o : Outpoint)
    → coin_in (coins ++ c ∷ []) o ≡ cond (is_some (coin_in coins o)) (coin_in coins o) (cond (same_outpoint c.outpoint o) (Some c) None)
in_more [] c o = refl
in_more (x ∷ xs) c o = elim (cases_Bool (same_outpoint x.outpoint o)) [
  | inl h ↦ rw h refl
  | inr h ↦ rw h (in_more xs c o)
]

none_is : {X : Type 0} (r : Option X) → cond (is_some r) r None ≡ r
none_is None = refl
none_is (Some x) = refl

-- the coin for an outpoint after the putting of one
pub in_put : (c : Coin) (coins : List Coin) (o : Outpoint) → coin_in (add_coin c coins) o ≡ cond (same_outpoint c.outpoint o) (Some c) (coin_in coins o)
in_put c coins o = in_more (without c.outpoint coins) c o ∙ rw (in_without c.outpoint coins o) (by (same_outpoint c.outpoint o) refl)
  where
    by : (b : Bool) → same_outpoint c.outpoint o ≡ b
        → cond (is_some (cond (same_outpoint c.outpoint o) None (coin_in coins o))) (cond (same_outpoint c.outpoint o) None (coin_in coins o)) (cond (same_outpoint c.outpoint o) (Some c) None)
        ≡ cond (same_outpoint c.outpoint o) (Some c) (coin_in coins o)
    by true e = rw e refl
    by false e = rw e (none_is (coin_in coins o))

-- no outpoint gets two coins
pub once_without : (p : Outpoint) (coins : List Coin) → AreOnce coins → AreOnce (without p coins)
once_without p [] once = tt
once_without p (c ∷ cs) once = elim (cases_Bool (same_outpoint c.outpoint p)) [
  | inl h ↦ rw h (once_without p cs once.1)
  | inr h ↦ rw h (in_without p cs c.outpoint ∙ rw (apart_turned c.outpoint p h) once.0, once_without p cs once.1)
]

pub once_more : (coins : List Coin) (c : Coin) → AreOnce coins → coin_in coins c.outpoint ≡ None → AreOnce (coins ++ c ∷ [])
once_more [] c once none = (refl, tt)
once_more (x ∷ xs) c once none = elim (cases_Bool (same_outpoint x.outpoint c.outpoint)) [
  | inl h ↦ let bad = rw h at none in absurd (some_none bad)
  | inr h ↦ let rest = rw h at none in (in_more xs c x.outpoint ∙ rw (once.0, apart_turned x.outpoint c.outpoint h) refl, once_more xs c once.1 rest)
]
  where
    some_none : Some x ≡ None → ⊥
    some_none e = cc

pub once_put : (c : Coin) (coins : List Coin) → AreOnce coins → AreOnce (add_coin c coins)
once_put c coins once =
    once_more (without c.outpoint coins) c (once_without c.outpoint coins once) (in_without c.outpoint coins c.outpoint ∙ rw (same_self c.outpoint) refl)

-- ---- nor by transactions

pub once_spent : (is : List TxIn) (coins : List Coin) → AreOnce coins → AreOnce (spend_inputs is coins)
once_spent [] coins once = once
once_spent (i ∷ is) coins once = once_spent is (without i.from coins) (once_without i.from coins once)

pub once_added : (id : Hash32) (height n : ℕ) (os : List TxOut) (coins : List Coin) → AreOnce coins → AreOnce (add_outputs id height n os coins)
once_added id height n [] coins once = once
once_added id height n (o ∷ os) coins once = once_added id height (n + 1) os (add_coin (coin_made id height n o) coins) (once_put (coin_made id height n o) coins once)

once_left : (t : Tx) (coins : List Coin) → AreOnce coins → AreOnce (coins_left t coins)
once_left t coins once = elim (cases_Bool (is_coinbase t)) [
  | inl e ↦ rw e once
  | inr e ↦ rw e (once_spent t.inputs coins once)
]

pub once_after : (height : ℕ) (t : Tx) (coins : List Coin) → AreOnce coins → AreOnce (coins_after height t coins)
once_after height t coins once = once_added (txid t) height 0 t.outputs (coins_left t coins) (once_left t coins once)

once_after_all : (height : ℕ) (ts : List Tx) (coins : List Coin) → AreOnce coins → AreOnce (coins_after_all height ts coins)
once_after_all height [] coins once = once
once_after_all height (t ∷ ts) coins once = once_after_all height ts (coins_after height t coins) (once_after height t coins once)

once_from : (height : ℕ) (blocks : Chain) (coins : List Coin) → AreOnce coins → AreOnce (coins_from height blocks coins)
once_from height [] coins once = once
once_from height (b ∷ bs) coins once = once_from (height + 1) bs (coins_after_all height b.block.txs coins) (once_after_all height b.block.txs coins once)

pub once_in_chain : (chain : Chain) → AreOnce (coins_from 0 chain [])
once_in_chain chain = once_from 0 chain [] tt

-- ---- sums

-- a list without a coin for the outpoint stays
pub without_none : (p : Outpoint) (coins : List Coin) → coin_in coins p ≡ None → without p coins ≡ coins
without_none p [] none = refl
without_none p (c ∷ cs) none = elim (cases_Bool (same_outpoint c.outpoint p)) [
  | inl h ↦ let bad = rw h at none in absurd (some_none bad)
  | inr h ↦ let rest = rw h at none in rw h (ap (λ (l : List Coin). c ∷ l) (without_none p cs rest))
]
  where
    some_none : Some c ≡ None → ⊥
    some_none e = cc

-- the sum without an outpoint's coin
pub supply_without : (p : Outpoint) (coins : List Coin) → AreOnce coins → supply (without p coins) + value_in (coin_in coins p) ≡ supply coins
supply_without p [] once = refl
supply_without p (c ∷ cs) once = elim (cases_Bool (same_outpoint c.outpoint p)) [
  | inl h ↦
      let is = same_gives c.outpoint p h in
      let none = rw is at once.0 in
      let rest = without_none p cs none in
      rw (h, rest) (omega arith)
  | inr h ↦
      let rest = supply_without p cs once.1 in
      rw h (omega arith)
]

pub supply_more : (coins : List Coin) (c : Coin) → supply (coins ++ c ∷ []) ≡ supply coins + c.value
supply_more [] c = omega arith
supply_more (x ∷ xs) c = let rest = supply_more xs c in omega arith

-- the sum after the putting of a coin
pub supply_put : (c : Coin) (coins : List Coin) → AreOnce coins → supply (add_coin c coins) + value_in (coin_in coins c.outpoint) ≡ supply coins + c.value
supply_put c coins once =
    let out = supply_without c.outpoint coins once in
    let more = supply_more (without c.outpoint coins) c in
    omega arith

-- outpoints are equal in the way that a table of coins needs
pub outpoints_equal : IsEquivalence same_outpoint
outpoints_equal = record {
  refl = same_self;
  symm = λ a b. by a b (same_outpoint a b) refl;
  congr = λ a b o h. ap (λ (p : Outpoint). same_outpoint p o) (same_gives a b h);
}
  where
    by : (a b : Outpoint) (r : Bool) → same_outpoint a b ≡ r → same_outpoint a b ≡ same_outpoint b a
    by a b true e = e ∙ sym (same_from b a (sym (same_gives a b e)))
    by a b false e = e ∙ sym (apart_turned a b e)
