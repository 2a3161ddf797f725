-- The output that an outpoint names is the only one of its outpoint that may be unspent; so a state that is set there is set for the outpoint.
use Rattle.std.proofs.Common.{◌≡◌, inl, inr, ◌⊎◌, ℕ, zero, suc, ◌+◌, ◌<◌, ◌≤◌, Bool, true, false, cond, ◌&&◌, List, [], ◌∷◌, ◌++◌, length, map, filter, Option, None, Some, refl, ap, sym, subst, ◌∙◌, arith, ne_eqb, eq-eqb, ◌==◌, nat_lt, option_and_then}
use Rattle.std.proofs.lemmas.Bool.{cases_Bool, or_from, or_left, or_right, and_right, and_left, and_parts, and_from, and_cases, ltb-true, ltb-false}
use Rattle.std.proofs.lemmas.List.{length-map}
use Rattle.std.specs.List.{list_any, AllByRecursion}
use Rattle.std.specs.Str.{bytes_eq}
use Rattle.el_base.specs.declared.hash.Hash32.{Hash32}
use Rattle.el_tx.specs.declared.types.Outpoint.{Outpoint}
use Rattle.el_tx.specs.declared.types.TxOut.{TxOut}
use Rattle.el_tx.specs.Hashing.{txid}
use Rattle.el_chain.specs.declared.coin.Coin.{Coin}
use Rattle.el_chain.specs.Coins.{is_coin_of, without, coin_made}
use Rattle.el_chain.specs.CoinLaws.{coins_made, takes, makes}
use Rattle.el_chain.proofs.CoinLists.{same_gives}
use Rattle.el_tables.specs.Lists.{ListedTx, State, is_unspent, has_output, output_number, unspent_at, with_state, script_at, coin_number, if_unspent, script_number}
use Rattle.el_tables.specs.Lists.State.{Unspent, Spent, Buried}
use Rattle.el_chain.specs.History.{Position}
use Rattle.el_tables.specs.ChainLists.{Output, makes_outpoint, output, listed_out}
use Rattle.el_tables.proofs.Outputs.{moved, moved_out, coins_of}

-- 1. Outputs of an outpoint

-- the output is the outpoint's, and is there
abbrev pub live : Outpoint → Output → Bool
live o x = is_coin_of o x.coin && is_unspent x.state

abbrev pub NoneLive : Outpoint → List Output → Type 0
NoneLive o xs = AllByRecursion (λ x. live o x ≡ false) xs

-- the output of that number is the outpoint's, and no other of the outpoint is there
abbrev pub OnlyAt : ℕ → Outpoint → List Output → Type 0
OnlyAt k o [] = ⊥
OnlyAt zero o (x ∷ xs) = (is_coin_of o x.coin ≡ true) × NoneLive o xs
OnlyAt (suc k) o (x ∷ xs) = (live o x ≡ false) × OnlyAt k o xs

abbrev pub NamesBy : Outpoint → Option ℕ → List Output → Type 0
NamesBy o None xs = NoneLive o xs
NamesBy o (Some k) xs = OnlyAt k o xs

-- each outpoint names the one output of its own that may be there
abbrev pub Names : List ListedTx → List Output → Type 0
Names txs xs = (o : Outpoint) → NamesBy o (output_number o txs) xs

-- 2. The outpoint's coin gets another state

abbrev pub settle : State → Outpoint → Output → Output
settle s o x = record { tx = x.tx; coin = x.coin; state = cond (live o x) s x.state }

pub settle_none : (s : State) (o : Outpoint) (xs : List Output) → NoneLive o xs → map (settle s o) xs ≡ xs
settle_none s o [] none = refl
settle_none s o (x ∷ xs) none = let h = none.0 in let rest = settle_none s o xs none.1 in rw (h, rest) refl

pub settle_at : (s : State) (k : ℕ) (o : Outpoint) (scripts : List Hash32) (xs : List Output) → OnlyAt k o xs
    → unspent_at k (map (listed_out scripts) xs) ≡ true
    → map (listed_out scripts) (map (settle s o) xs) ≡ with_state s k (map (listed_out scripts) xs)
settle_at s k o scripts [] at there = absurd at
settle_at s zero o scripts (x ∷ xs) at there =
    let h = at.0 in let rest = settle_none s o xs at.1 in rw (h, there, rest) refl
settle_at s (suc k) o scripts (x ∷ xs) at there =
    let h = at.0 in let rest = settle_at s k o scripts xs at.1 there in rw (h, rest) refl

pub dead_at : (k : ℕ) (o : Outpoint) (scripts : List Hash32) (xs : List Output) → OnlyAt k o xs
    → unspent_at k (map (listed_out scripts) xs) ≡ false → NoneLive o xs
dead_at k o scripts [] at dead = absurd at
dead_at zero o scripts (x ∷ xs) at dead = (and_right (is_coin_of o x.coin) (is_unspent x.state) dead, at.1)
dead_at (suc k) o scripts (x ∷ xs) at dead = (at.0, dead_at k o scripts xs at.1 dead)

-- it is still the only one that may be there
live_settled : (s : State) (o p : Outpoint) (x : Output) → is_unspent s ≡ false → live p x ≡ false → live p (settle s o x) ≡ false
live_settled s o p x gone h = elim (cases_Bool (live o x)) [
  | inl e ↦ rw e (and_right (is_coin_of p x.coin) (is_unspent s) gone)
  | inr e ↦ rw e h
]

pub none_settled : (s : State) (o p : Outpoint) (xs : List Output) → is_unspent s ≡ false → NoneLive p xs → NoneLive p (map (settle s o) xs)
none_settled s o p [] gone none = tt
none_settled s o p (x ∷ xs) gone none = (live_settled s o p x gone none.0, none_settled s o p xs gone none.1)

at_settled : (s : State) (o p : Outpoint) (k : ℕ) (xs : List Output) → is_unspent s ≡ false → OnlyAt k p xs → OnlyAt k p (map (settle s o) xs)
at_settled s o p k [] gone at = absurd at
at_settled s o p zero (x ∷ xs) gone at = (at.0, none_settled s o p xs gone at.1)
at_settled s o p (suc k) (x ∷ xs) gone at = (live_settled s o p x gone at.0, at_settled s o p k xs gone at.1)

pub names_settled : (s : State) (o : Outpoint) (txs : List ListedTx) (xs : List Output) → is_unspent s ≡ false → Names txs xs → Names txs (map (settle s o) xs)
names_settled s o txs xs gone names = λ p. by p (output_number p txs) (names p)
  where
    by : (p : Outpoint) (r : Option ℕ) → NamesBy p r xs → NamesBy p r (map (settle s o) xs)
    by p None h = none_settled s o p xs gone h
    by p (Some k) h = at_settled s o p k xs gone h

-- the coins are then those without the outpoint
pub coins_settled : (s : State) (o : Outpoint) (xs : List Output) → is_unspent s ≡ false → coins_of (map (settle s o) xs) ≡ without o (coins_of xs)
coins_settled s o [] gone = refl
coins_settled s o (x ∷ xs) gone =
    let rest = coins_settled s o xs gone in
    elim (cases_Bool (is_unspent x.state)) [
      | inl u ↦ elim (cases_Bool (is_coin_of o x.coin)) [
        | inl h ↦ rw (u, h, gone) rest
        | inr h ↦ rw (u, h, u) (ap (λ (l : List Coin). x.coin ∷ l) rest)
      ]
      | inr u ↦ let dead = and_right (is_coin_of o x.coin) (is_unspent x.state) u in rw (dead, u) rest
    ]

-- 3. What is found for an outpoint

-- none of its own is there, or that of this number is, which is listed with this coin's script
abbrev pub Found : Outpoint → List Hash32 → List Output → Option ℕ → Type 0
Found o scripts xs None = NoneLive o xs
Found o scripts xs (Some k) = record {
  at : OnlyAt k o xs;
  there : unspent_at k (map (listed_out scripts) xs) ≡ true;
  coin : Coin;
  is : filter (is_coin_of o) (coins_of xs) ≡ coin ∷ [];
  script : script_at k (map (listed_out scripts) xs) ≡ script_number coin.script scripts;
}

-- among the coins
pub none_coins : (o : Outpoint) (xs : List Output) → NoneLive o xs → filter (is_coin_of o) (coins_of xs) ≡ []
none_coins o [] none = refl
none_coins o (x ∷ xs) none =
    let rest = none_coins o xs none.1 in
    elim (cases_Bool (is_unspent x.state)) [
      | inl u ↦ elim (cases_Bool (is_coin_of o x.coin)) [
        | inl h ↦ let bad : true ≡ false = sym (and_from (is_coin_of o x.coin) (is_unspent x.state) h u) ∙ none.0 in absurd (true_false bad)
        | inr h ↦ rw (u, h) rest
      ]
      | inr u ↦ rw u rest
    ]
  where
    true_false : true ≡ false → ⊥
    true_false e = cc

found_at : (k : ℕ) (o : Outpoint) (scripts : List Hash32) (xs : List Output) → OnlyAt k o xs → unspent_at k (map (listed_out scripts) xs) ≡ true
    → (c : Coin) × (filter (is_coin_of o) (coins_of xs) ≡ c ∷ []) × (script_at k (map (listed_out scripts) xs) ≡ script_number c.script scripts)
found_at k o scripts [] at there = absurd at
found_at zero o scripts (x ∷ xs) at there =
    let rest = none_coins o xs at.1 in
    let h = at.0 in
    (x.coin, rw (there, h) (ap (λ (l : List Coin). x.coin ∷ l) rest), refl)
found_at (suc k) o scripts (x ∷ xs) at there =
    let rest = found_at k o scripts xs at.1 there in (
      rest.0,
      elim (cases_Bool (is_unspent x.state)) [
        | inl u ↦ elim (cases_Bool (is_coin_of o x.coin)) [
          | inl h ↦ let bad : true ≡ false = sym (and_from (is_coin_of o x.coin) (is_unspent x.state) h u) ∙ at.0 in absurd (true_false bad)
          | inr h ↦ rw (u, h) rest.1
        ]
        | inr u ↦ rw u rest.1
      ],
      rest.2,
    )
  where
    true_false : true ≡ false → ⊥
    true_false e = cc

pub found : (o : Outpoint) (txs : List ListedTx) (scripts : List Hash32) (xs : List Output) → Names txs xs
    → Found o scripts xs (coin_number o txs (map (listed_out scripts) xs))
found o txs scripts xs names = by (output_number o txs) (names o)
  where
    by : (r : Option ℕ) → NamesBy o r xs → Found o scripts xs (option_and_then (if_unspent (map (listed_out scripts) xs)) r)
    by None h = h
    by (Some k) h = elim (cases_Bool (unspent_at k (map (listed_out scripts) xs))) [
      | inl u ↦ rw u (let f = found_at k o scripts xs h u in record { at = h; there = u; coin = f.0; is = f.1; script = f.2 })
      | inr u ↦ rw u (dead_at k o scripts xs h u)
    ]

-- the place is within the outputs
pub at_within : (k : ℕ) (o : Outpoint) (xs : List Output) → OnlyAt k o xs → k < length xs
at_within k o [] at = absurd at
at_within zero o (x ∷ xs) at = omega arith
at_within (suc k) o (x ∷ xs) at = let rest = at_within k o xs at.1 in omega arith

-- 4. One transaction more keeps names

none_joined : (o : Outpoint) (xs ys : List Output) → NoneLive o xs → NoneLive o ys → NoneLive o (xs ++ ys)
none_joined o [] ys front back = back
none_joined o (x ∷ xs) ys front back = (front.0, none_joined o xs ys front.1 back)

at_front : (k : ℕ) (o : Outpoint) (xs ys : List Output) → OnlyAt k o xs → NoneLive o ys → OnlyAt k o (xs ++ ys)
at_front k o [] ys at back = absurd at
at_front zero o (x ∷ xs) ys at back = (at.0, none_joined o xs ys at.1 back)
at_front (suc k) o (x ∷ xs) ys at back = (at.0, at_front k o xs ys at.1 back)

at_back : (k n : ℕ) (o : Outpoint) (xs ys : List Output) → n ≡ length xs + k → NoneLive o xs → OnlyAt k o ys → OnlyAt n o (xs ++ ys)
at_back k n o [] ys is front at = let e : n ≡ k = omega arith in rw e at
at_back k n o (x ∷ xs) ys is front at =
    let e : n ≡ suc (length xs + k) = omega arith in
    rw e (front.0, at_back k (length xs + k) o xs ys refl front.1 at)

-- the outputs that a transaction makes
pub makes_at : (k n m : ℕ) (o : Outpoint) (id : Hash32) (height : ℕ) (os : List TxOut) → o.index ≡ n + k → k < length os → bytes_eq id.0 o.txid.0 ≡ true
    → OnlyAt k o (map (output m []) (coins_made id height n os)) × (list_any (is_coin_of o) (coins_made id height n os) ≡ true)
makes_at k n m o id height [] is lt same = absurd (omega arith)
makes_at zero n m o id height (x ∷ xs) is lt same =
    let here : is_coin_of o (coin_made id height n x) ≡ true = and_from (bytes_eq id.0 o.txid.0) (n == o.index) same (eq-eqb n o.index (omega arith)) in
    ((here, none_later (n + 1) xs (omega arith)), or_left (is_coin_of o (coin_made id height n x)) (list_any (is_coin_of o) (coins_made id height (n + 1) xs)) here)
  where
    none_later : (i : ℕ) (ys : List TxOut) → o.index < i → NoneLive o (map (output m []) (coins_made id height i ys))
    none_later i [] above = tt
    none_later i (y ∷ ys) above = (
      and_left (is_coin_of o (coin_made id height i y)) true (and_right (bytes_eq id.0 o.txid.0) (i == o.index) (ne_eqb i o.index (λ e. omega arith))),
      none_later (i + 1) ys (omega arith),
    )
makes_at (suc k) n m o id height (x ∷ xs) is lt same =
    let rest = makes_at k (n + 1) m o id height xs (omega arith) (omega arith) same in
    let apart : is_coin_of o (coin_made id height n x) ≡ false = and_right (bytes_eq id.0 o.txid.0) (n == o.index) (ne_eqb n o.index (λ e. omega arith)) in
    ((and_left (is_coin_of o (coin_made id height n x)) true apart, rest.0), or_right (is_coin_of o (coin_made id height n x)) (list_any (is_coin_of o) (coins_made id height (n + 1) xs)) rest.1)

pub makes_none : (n m : ℕ) (o : Outpoint) (id : Hash32) (height : ℕ) (os : List TxOut) → (bytes_eq id.0 o.txid.0 ≡ false) ⊎ (n + length os ≤ o.index)
    → NoneLive o (map (output m []) (coins_made id height n os)) × (list_any (is_coin_of o) (coins_made id height n os) ≡ false)
makes_none n m o id height [] out = (tt, refl)
makes_none n m o id height (x ∷ xs) out =
    let rest = makes_none (n + 1) m o id height xs (later out) in
    let apart = here out in
    ((and_left (is_coin_of o (coin_made id height n x)) true apart, rest.0), or_from (is_coin_of o (coin_made id height n x)) (list_any (is_coin_of o) (coins_made id height (n + 1) xs)) apart rest.1)
  where
    later : (bytes_eq id.0 o.txid.0 ≡ false) ⊎ (n + length (x ∷ xs) ≤ o.index) → (bytes_eq id.0 o.txid.0 ≡ false) ⊎ (n + 1 + length xs ≤ o.index)
    later (inl e) = inl e
    later (inr e) = inr (omega arith)

    here : (bytes_eq id.0 o.txid.0 ≡ false) ⊎ (n + length (x ∷ xs) ≤ o.index) → is_coin_of o (coin_made id height n x) ≡ false
    here (inl e) = and_left (bytes_eq id.0 o.txid.0) (n == o.index) e
    here (inr e) = and_right (bytes_eq id.0 o.txid.0) (n == o.index) (ne_eqb n o.index (λ f. omega arith))

-- an output that is not there stays so
live_moved : (o : Outpoint) (m : ℕ) (p : Position) (tx : ℕ) (c : Coin) (s : State) → live o (record { tx = tx; coin = c; state = s }) ≡ false
    → live o (moved_out m p (record { tx = tx; coin = c; state = s })) ≡ false
live_moved o m p tx c Unspent h = elim (cases_Bool (takes c.outpoint p.tx)) [
  | inl t ↦ rw t (and_right (is_coin_of o c) false refl)
  | inr t ↦ elim (cases_Bool (makes_outpoint c.outpoint p)) [
    | inl d ↦ rw (t, d) (and_right (is_coin_of o c) false refl)
    | inr d ↦ rw (t, d) h
  ]
]
live_moved o m p tx c (Spent k) h = h
live_moved o m p tx c (Buried k) h = h

none_moved : (o : Outpoint) (m : ℕ) (p : Position) (xs : List Output) → NoneLive o xs → NoneLive o (map (moved_out m p) xs)
none_moved o m p [] h = tt
none_moved o m p (x ∷ xs) h = (live_moved o m p x.tx x.coin x.state h.0, none_moved o m p xs h.1)

at_moved : (k : ℕ) (o : Outpoint) (m : ℕ) (p : Position) (xs : List Output) → OnlyAt k o xs → OnlyAt k o (map (moved_out m p) xs)
at_moved k o m p [] h = absurd h
at_moved zero o m p (x ∷ xs) h = (h.0, none_moved o m p xs h.1)
at_moved (suc k) o m p (x ∷ xs) h = (live_moved o m p x.tx x.coin x.state h.0, at_moved k o m p xs h.1)

-- one whose outpoint is made anew is not there any more
live_made : (o : Outpoint) (m : ℕ) (p : Position) (tx : ℕ) (c : Coin) (s : State) → makes_outpoint o p ≡ true
    → live o (moved_out m p (record { tx = tx; coin = c; state = s })) ≡ false
live_made o m p tx c Unspent made = elim (cases_Bool (is_coin_of o c)) [
  | inl h ↦ elim (cases_Bool (takes c.outpoint p.tx)) [
    | inl t ↦ rw t (and_right (is_coin_of o c) false refl)
    | inr t ↦
        let same = same_gives c.outpoint o h in
        let d : makes_outpoint c.outpoint p ≡ true = ap (λ (u : Outpoint). makes_outpoint u p) same ∙ made in
        rw (t, d) (and_right (is_coin_of o c) false refl)
  ]
  | inr h ↦ and_left (is_coin_of o c) (is_unspent (moved c.outpoint m p Unspent)) h
]
live_made o m p tx c (Spent k) made = and_right (is_coin_of o c) false refl
live_made o m p tx c (Buried k) made = and_right (is_coin_of o c) false refl

none_made : (o : Outpoint) (m : ℕ) (p : Position) (xs : List Output) → makes_outpoint o p ≡ true → NoneLive o (map (moved_out m p) xs)
none_made o m p [] made = tt
none_made o m p (x ∷ xs) made = (live_made o m p x.tx x.coin x.state made, none_made o m p xs made)

-- a look-up by name, with one transaction more
pub named_more : (o : Outpoint) (ts : List ListedTx) (t : ListedTx) → output_number o (ts ++ t ∷ []) ≡ cond (has_output o t) (Some (t.first_out + o.index)) (output_number o ts)
named_more o [] t = elim (cases_Bool (has_output o t)) [
  | inl h ↦ rw h refl
  | inr h ↦ rw h refl
]
named_more o (u ∷ us) t =
    let rest = named_more o us t in
    elim (cases_Bool (has_output o t)) [
      | inl h ↦ let e : output_number o (us ++ t ∷ []) ≡ Some (t.first_out + o.index) = rest ∙ rw h refl in rw (e, h) refl
      | inr h ↦ let e : output_number o (us ++ t ∷ []) ≡ output_number o us = rest ∙ rw h refl in rw (e, h) refl
    ]

-- the listed transaction is the position's, and its outputs stand after the others
pub record Lists_tx (t : ListedTx) (p : Position) (xs : List Output) : Type 0 where
  pub txid : t.txid ≡ txid p.tx
  pub outs : t.outs ≡ length p.tx.outputs
  pub first : t.first_out ≡ length xs

pub names_more : (ts : List ListedTx) (t : ListedTx) (m : ℕ) (p : Position) (xs : List Output) → Lists_tx t p xs → Names ts xs
    → Names (ts ++ t ∷ []) (map (moved_out m p) xs ++ map (output m []) (makes p))
names_more ts t m p xs lists names = λ o. subst (λ (r : Option ℕ). NamesBy o r (map (moved_out m p) xs ++ map (output m []) (makes p))) (sym (named_more o ts t)) (by o)
  where
    old : (o : Outpoint) (r : Option ℕ) → NamesBy o r xs → NoneLive o (map (output m []) (makes p)) → NamesBy o r (map (moved_out m p) xs ++ map (output m []) (makes p))
    old o None h new = none_joined o (map (moved_out m p) xs) (map (output m []) (makes p)) (none_moved o m p xs h) new
    old o (Some k) h new = at_front k o (map (moved_out m p) xs) (map (output m []) (makes p)) (at_moved k o m p xs h) new

    out : (o : Outpoint) → (bytes_eq t.txid.0 o.txid.0 ≡ false) ⊎ (nat_lt o.index t.outs ≡ false) → (bytes_eq (txid p.tx).0 o.txid.0 ≡ false) ⊎ (0 + length p.tx.outputs ≤ o.index)
    out o (inl e) = inl (ap (λ (h : Hash32). bytes_eq h.0 o.txid.0) (sym lists.txid) ∙ e)
    out o (inr e) = let h = ltb-false o.index t.outs e in let outs = lists.outs in inr (omega arith)

    by : (o : Outpoint) → NamesBy o (cond (has_output o t) (Some (t.first_out + o.index)) (output_number o ts)) (map (moved_out m p) xs ++ map (output m []) (makes p))
    by o = elim (cases_Bool (has_output o t)) [
      | inl h ↦
          let parts = and_parts (bytes_eq t.txid.0 o.txid.0) (nat_lt o.index t.outs) h in
          let same = ap (λ (i : Hash32). bytes_eq i.0 o.txid.0) (sym lists.txid) ∙ parts.0 in
          let lt = ltb-true o.index t.outs parts.1 in
          let outs = lists.outs in
          let first = lists.first in
          let long = length-map xs (moved_out m p) in
          let at = makes_at o.index 0 m o (txid p.tx) p.height p.tx.outputs (omega arith) (omega arith) same in
          rw h (at_back o.index (t.first_out + o.index) o (map (moved_out m p) xs) (map (output m []) (makes p)) (omega arith) (none_made o m p xs at.1) at.0)
      | inr h ↦
          let none = makes_none 0 m o (txid p.tx) p.height p.tx.outputs (out o (and_cases (bytes_eq t.txid.0 o.txid.0) (nat_lt o.index t.outs) h)) in
          rw h (old o (output_number o ts) (names o) none.0)
    ]
