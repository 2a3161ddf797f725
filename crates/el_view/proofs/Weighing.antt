-- What those of some coins hold that pass a test.
use Rattle.std.proofs.Common.{◌≡◌, inl, inr, ℕ, ◌+◌, Bool, true, false, cond, ◌&&◌, List, [], ◌∷◌, ◌++◌, Option, None, Some, refl, ap, sym, ◌∙◌, arith}
use Rattle.std.proofs.lemmas.Bool.{cases_Bool}
use Rattle.std.specs.List.{filter, flat_map}
use Rattle.std.specs.Ordering.{is_gt}
use Rattle.std.specs.declared.cmp.Ordering.{Ordering}
use Rattle.el_tx.specs.declared.types.Outpoint.{Outpoint}
use Rattle.el_tx.specs.Hashing.{same_outpoint}
use Rattle.el_chain.specs.declared.coin.Coin.{Coin}
use Rattle.el_chain.specs.Coins.{without, supply}
use Rattle.el_chain.specs.CoinLists.{coin_in, AreOnce}
use Rattle.el_chain.proofs.CoinLists.{same_gives, without_none}
use Rattle.el_mempool.specs.Unconfirmed.{put, in_order}

abbrev pub weigh : (Coin → Bool) → List Coin → ℕ
weigh p [] = 0
weigh p (c ∷ cs) = cond (p c) c.value 0 + weigh p cs

pub weigh_is : (p : Coin → Bool) (cs : List Coin) → supply (filter p cs) ≡ weigh p cs
weigh_is p [] = refl
weigh_is p (c ∷ cs) = by (p c) (weigh_is p cs)
  where
    by : (b : Bool) → supply (filter p cs) ≡ weigh p cs → supply (cond b (c ∷ filter p cs) (filter p cs)) ≡ cond b c.value 0 + weigh p cs
    by true e = ap (λ n. c.value + n) e
    by false e = omega (arith, e)

pub weigh_filter : (p q : Coin → Bool) (cs : List Coin) → weigh p (filter q cs) ≡ weigh (λ c. q c && p c) cs
weigh_filter p q [] = refl
weigh_filter p q (c ∷ cs) = by (q c) (weigh_filter p q cs)
  where
    by : (b : Bool) → weigh p (filter q cs) ≡ weigh (λ x. q x && p x) cs
        → weigh p (cond b (c ∷ filter q cs) (filter q cs)) ≡ cond (b && p c) c.value 0 + weigh (λ x. q x && p x) cs
    by true e = ap (λ n. cond (p c) c.value 0 + n) e
    by false e = omega (arith, e)

pub weigh_agree : (p q : Coin → Bool) → ((c : Coin) → p c ≡ q c) → (cs : List Coin) → weigh p cs ≡ weigh q cs
weigh_agree p q same [] = refl
weigh_agree p q same (c ∷ cs) = ap (λ b. cond b c.value 0 + weigh p cs) (same c) ∙ ap (λ n. cond (q c) c.value 0 + n) (weigh_agree p q same cs)

pub weigh_append : (p : Coin → Bool) (xs ys : List Coin) → weigh p (xs ++ ys) ≡ weigh p xs + weigh p ys
weigh_append p [] ys = omega arith
weigh_append p (x ∷ xs) ys = let rest = weigh_append p xs ys in omega (arith, rest)

-- ---- the coin of an outpoint taken away

-- what the coin of an outpoint holds where it passes the test
abbrev pub weight_of : (Coin → Bool) → Option Coin → ℕ
weight_of p None = 0
weight_of p (Some c) = cond (p c) c.value 0

pub weigh_without : (p : Coin → Bool) (o : Outpoint) (cs : List Coin) → AreOnce cs → weigh p (without o cs) + weight_of p (coin_in cs o) ≡ weigh p cs
weigh_without p o [] once = refl
weigh_without p o (c ∷ cs) once = elim (cases_Bool (same_outpoint c.outpoint o)) [
  | inl h ↦
      let is = same_gives c.outpoint o h in
      let none = rw is at once.0 in
      let rest = without_none o cs none in
      rw (h, rest) (omega arith)
  | inr h ↦
      let rest = weigh_without p o cs once.1 in
      rw h (omega (arith, rest))
]

-- ---- coins that pass a test of their outpoint

pub in_filter : (q : Outpoint → Bool) (cs : List Coin) (o : Outpoint) → q o ≡ true → coin_in (filter (λ (c : Coin). q c.outpoint) cs) o ≡ coin_in cs o
in_filter q [] o stays = refl
in_filter q (c ∷ cs) o stays = elim (cases_Bool (same_outpoint c.outpoint o)) [
  | inl h ↦
      let kept : q c.outpoint ≡ true = ap q (same_gives c.outpoint o h) ∙ stays in
      rw (kept, h) refl
  | inr h ↦ by h (q c.outpoint) (in_filter q cs o stays)
]
  where
    by : same_outpoint c.outpoint o ≡ false → (b : Bool) → coin_in (filter (λ (x : Coin). q x.outpoint) cs) o ≡ coin_in cs o
        → coin_in (cond b (c ∷ filter (λ (x : Coin). q x.outpoint) cs) (filter (λ (x : Coin). q x.outpoint) cs)) o ≡ coin_in (c ∷ cs) o
    by h true e = rw h e
    by h false e = rw h e

pub once_filter : (q : Outpoint → Bool) (cs : List Coin) → AreOnce cs → AreOnce (filter (λ (c : Coin). q c.outpoint) cs)
once_filter q [] once = tt
once_filter q (c ∷ cs) once = elim (cases_Bool (q c.outpoint)) [
  | inl h ↦ rw h (in_filter q cs c.outpoint h ∙ once.0, once_filter q cs once.1)
  | inr h ↦ rw h (once_filter q cs once.1)
]

-- ---- in another order

pub weigh_put : {X : Type 0} (R : X → X → Ordering) (p : Coin → Bool) (f : X → List Coin) (x : X) (ys : List X) → weigh p (flat_map f (put R x ys)) ≡ weigh p (f x) + weigh p (flat_map f ys)
weigh_put R p f x [] = weigh_append p (f x) []
weigh_put R p f x (y ∷ ys) = by (is_gt (R x y)) (weigh_put R p f x ys)
  where
    by : (b : Bool) → weigh p (flat_map f (put R x ys)) ≡ weigh p (f x) + weigh p (flat_map f ys)
        → weigh p (flat_map f (cond b (y ∷ put R x ys) (x ∷ y ∷ ys))) ≡ weigh p (f x) + weigh p (flat_map f (y ∷ ys))
    by true e =
        let one = weigh_append p (f y) (flat_map f (put R x ys)) in
        let two = weigh_append p (f y) (flat_map f ys) in
        omega (arith, one, two, e)
    by false e = weigh_append p (f x) (f y ++ flat_map f ys)

pub weigh_in_order : {X : Type 0} (R : X → X → Ordering) (p : Coin → Bool) (f : X → List Coin) (xs : List X) → weigh p (flat_map f (in_order R xs)) ≡ weigh p (flat_map f xs)
weigh_in_order R p f [] = refl
weigh_in_order R p f (x ∷ xs) =
    let rest = weigh_in_order R p f xs in
    weigh_put R p f x (in_order R xs) ∙ ap (λ n. weigh p (f x) + n) rest ∙ sym (weigh_append p (f x) (flat_map f xs))
