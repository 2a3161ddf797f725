-- The coins of those script hashes that are named, in a table, in the order in which they were made.
use Rattle.std.proofs.Common.{◌≡◌, inl, inr, ℕ, Bool, true, false, ◌&&◌, ◌||◌, List, [], ◌∷◌, ◌++◌, Option, None, Some, refl, ap, sym, ◌∙◌, append-nil, true≢false}
use Rattle.std.proofs.lemmas.Bool.{cases_Bool}
use Rattle.std.proofs.lemmas.List.Elements.{filter-append}
use Rattle.std.proofs.Math.Bool.{or-false}
use Rattle.std.specs.List.{AllByRecursion, IsDistinct, flat_map}
use Rattle.std.specs.Option.{is_some, option_flatten}
use Rattle.std.specs.Prelude.{option_to_list}
use Rattle.std.specs.Str.{bytes_eq}
use Rattle.std.specs.Map.{keys_of, values_of, lookup, remove_entry}
use Rattle.indexmap.specs.IndexMap.{IndexMap, IsUnique, insert_entry}
use Rattle.indexmap.proofs.CallerLemmas.{insert_entry-new}
use Rattle.el_base.proofs.Lists.{all_more}
use Rattle.el_base.specs.declared.hash.Hash32.{Hash32}
use Rattle.el_tx.specs.declared.types.Outpoint.{Outpoint}
use Rattle.el_tx.specs.Hashing.{same_outpoint}
use Rattle.el_chain.specs.declared.coin.Coin.{Coin}
use Rattle.el_chain.specs.Coins.{without, add_coin}
use Rattle.el_chain.specs.History.{has_own}
use Rattle.el_chain.proofs.CoinLists.{same_gives, same_from, apart_turned}
use Rattle.el_chain.proofs.TouchLemmas.{hash_gives}
use Rattle.el_audit.specs.within.OwnCoins.{standing, own_of, coins_with, StandRight, AreOwn, coin_in_table}

-- a table's entry
abbrev pub Kept : Type 0
Kept = Outpoint × Option Coin

-- no entry has the outpoint
abbrev pub AreApart : Outpoint → List Kept → Type 0
AreApart o es = AllByRecursion (λ k. same_outpoint o k ≡ false) (keys_of es)

pub standing_apart : (o : Outpoint) (es : List Kept) → StandRight es → AreApart o es → without o (standing es) ≡ standing es
standing_apart o [] right apart = refl
standing_apart o ((k, None) ∷ es) right apart = standing_apart o es right.1 apart.1
standing_apart o ((k, Some c) ∷ es) right apart =
    let other : same_outpoint c.outpoint o ≡ false = ap (λ p. same_outpoint p o) right.0 ∙ apart_turned o k apart.0 in
    rw other (ap (λ l. c ∷ l) (standing_apart o es right.1 apart.1))

apart_from : (o k : Outpoint) (es : List Kept) → o ≡ k → AreApart k es → AreApart o es
apart_from o k es is apart = rw is apart

-- the coin of an outpoint is taken, and its place stays
pub standing_taken : (o : Outpoint) (es : List Kept) → StandRight es → IsDistinct same_outpoint (keys_of es) → standing (insert_entry same_outpoint es o None) ≡ without o (standing es)
unfolding IsDistinct
standing_taken o [] right once = refl
standing_taken o ((k, None) ∷ es) right once = elim (cases_Bool (same_outpoint o k)) [
  | inl h ↦ rw h (sym (standing_apart o es right.1 (apart_from o k es (same_gives o k h) once.0)))
  | inr h ↦ rw h (standing_taken o es right.1 once.1)
]
standing_taken o ((k, Some c) ∷ es) right once = elim (cases_Bool (same_outpoint o k)) [
  | inl h ↦
      let own : same_outpoint c.outpoint o ≡ true = same_from c.outpoint o (right.0 ∙ sym (same_gives o k h)) in
      rw (h, own) (sym (standing_apart o es right.1 (apart_from o k es (same_gives o k h) once.0)))
  | inr h ↦
      let other : same_outpoint c.outpoint o ≡ false = ap (λ p. same_outpoint p o) right.0 ∙ apart_turned o k h in
      rw (h, other) (ap (λ l. c ∷ l) (standing_taken o es right.1 once.1))
]

pub right_taken : (o : Outpoint) (es : List Kept) → StandRight es → StandRight (insert_entry same_outpoint es o None)
right_taken o [] right = (tt, tt)
right_taken o ((k, v) ∷ es) right = elim (cases_Bool (same_outpoint o k)) [
  | inl h ↦ rw h (tt, right.1)
  | inr h ↦ rw h (right.0, right_taken o es right.1)
]

-- the entry of an outpoint is removed
pub standing_removed : (o : Outpoint) (es : List Kept) → StandRight es → IsDistinct same_outpoint (keys_of es) → standing (remove_entry (same_outpoint o) es) ≡ without o (standing es)
unfolding IsDistinct
standing_removed o [] right once = refl
standing_removed o ((k, None) ∷ es) right once = elim (cases_Bool (same_outpoint o k)) [
  | inl h ↦ rw h (sym (standing_apart o es right.1 (apart_from o k es (same_gives o k h) once.0)))
  | inr h ↦ rw h (standing_removed o es right.1 once.1)
]
standing_removed o ((k, Some c) ∷ es) right once = elim (cases_Bool (same_outpoint o k)) [
  | inl h ↦
      let own : same_outpoint c.outpoint o ≡ true = same_from c.outpoint o (right.0 ∙ sym (same_gives o k h)) in
      rw (h, own) (sym (standing_apart o es right.1 (apart_from o k es (same_gives o k h) once.0)))
  | inr h ↦
      let other : same_outpoint c.outpoint o ≡ false = ap (λ p. same_outpoint p o) right.0 ∙ apart_turned o k h in
      rw (h, other) (ap (λ l. c ∷ l) (standing_removed o es right.1 once.1))
]

pub right_removed : (o : Outpoint) (es : List Kept) → StandRight es → StandRight (remove_entry (same_outpoint o) es)
right_removed o [] right = tt
right_removed o ((k, v) ∷ es) right = elim (cases_Bool (same_outpoint o k)) [
  | inl h ↦ rw h right.1
  | inr h ↦ rw h (right.0, right_removed o es right.1)
]

-- one more coin stands after the others
pub standing_more : (es : List Kept) (c : Coin) → standing (es ++ (c.outpoint, Some c) ∷ []) ≡ standing es ++ c ∷ []
standing_more [] c = refl
standing_more ((k, None) ∷ es) c = standing_more es c
standing_more ((k, Some d) ∷ es) c = ap (λ l. d ∷ l) (standing_more es c)

-- no entry has an outpoint that is not found
pub apart_none : (o : Outpoint) (es : List Kept) → lookup (same_outpoint o) es ≡ None → AreApart o es
apart_none o [] none = tt
apart_none o ((k, v) ∷ es) none = elim (cases_Bool (same_outpoint o k)) [
  | inl h ↦ let said = rw h at none in absurd (cc)
  | inr h ↦ let said = rw h at none in (h, apart_none o es said)
]

-- the own coins without one outpoint's
pub own_without : (is_named : Hash32 → Bool) (o : Outpoint) (coins : List Coin) → own_of is_named (without o coins) ≡ without o (own_of is_named coins)
own_without is_named o [] = refl
own_without is_named o (c ∷ cs) = elim (cases_Bool (same_outpoint c.outpoint o)) [
  | inl h ↦ elim (cases_Bool (is_named c.script)) [
    | inl g ↦ rw (h, g, h) (own_without is_named o cs)
    | inr g ↦ rw (h, g) (own_without is_named o cs)
  ]
  | inr h ↦ elim (cases_Bool (is_named c.script)) [
    | inl g ↦ rw (h, g, h) (ap (λ l. c ∷ l) (own_without is_named o cs))
    | inr g ↦ rw (h, g) (own_without is_named o cs)
  ]
]

-- the coin of an outpoint is taken
pub own_taken : {S : Type 0} (old new : IndexMap Outpoint (Option Coin) S) (is_named : Hash32 → Bool) (coins : List Coin) (o : Outpoint) → AreOwn old is_named coins
    → new.entries ≡ insert_entry same_outpoint old.entries o None → IsUnique same_outpoint new → AreOwn new is_named (without o coins)
own_taken old new is_named coins o h is once = record {
  are = ap standing is ∙ standing_taken o old.entries h.right h.once ∙ ap (without o) h.are ∙ sym (own_without is_named o coins);
  right = rw is (right_taken o old.entries h.right);
  once = once;
}

-- an outpoint has no coin to take
pub own_absent : {S : Type 0} (own : IndexMap Outpoint (Option Coin) S) (is_named : Hash32 → Bool) (coins : List Coin) (o : Outpoint) → AreOwn own is_named coins
    → is_some (lookup (same_outpoint o) own.entries) ≡ false → AreOwn own is_named (without o coins)
own_absent own is_named coins o h absent = record {
  are = sym (standing_apart o own.entries h.right (apart_none o own.entries (empty (lookup (same_outpoint o) own.entries) absent))) ∙ ap (without o) h.are ∙ sym (own_without is_named o coins);
  right = h.right;
  once = h.once;
}
  where
    empty : (x : Option (Option Coin)) → is_some x ≡ false → x ≡ None
    empty None e = refl
    empty (Some x) e = absurd (cc)

-- a coin of another script hash is put in
pub own_other : {S : Type 0} (old mid : IndexMap Outpoint (Option Coin) S) (is_named : Hash32 → Bool) (coins : List Coin) (c : Coin) → AreOwn old is_named coins
    → mid.entries ≡ remove_entry (same_outpoint c.outpoint) old.entries → IsUnique same_outpoint mid → is_named c.script ≡ false → AreOwn mid is_named (add_coin c coins)
own_other old mid is_named coins c h is once other = record {
  are = ap standing is ∙ standing_removed c.outpoint old.entries h.right h.once ∙ ap (without c.outpoint) h.are ∙ sym (own_without is_named c.outpoint coins)
      ∙ sym (filter-append (λ (x : Coin). is_named x.script) (without c.outpoint coins) (c ∷ []) ∙ rw other (append-nil (own_of is_named (without c.outpoint coins))));
  right = rw is (right_removed c.outpoint old.entries h.right);
  once = once;
}

-- a coin of the script hash is put in
pub own_put : {S : Type 0} (old mid new : IndexMap Outpoint (Option Coin) S) (is_named : Hash32 → Bool) (coins : List Coin) (c : Coin) → AreOwn old is_named coins
    → mid.entries ≡ remove_entry (same_outpoint c.outpoint) old.entries → lookup (same_outpoint c.outpoint) mid.entries ≡ None
    → new.entries ≡ insert_entry same_outpoint mid.entries c.outpoint (Some c) → IsUnique same_outpoint new → is_named c.script ≡ true → AreOwn new is_named (add_coin c coins)
own_put old mid new is_named coins c h is none put once own =
    let last : new.entries ≡ mid.entries ++ (c.outpoint, Some c) ∷ [] = put ∙ insert_entry-new same_outpoint mid c.outpoint (Some c) none in
    let before : standing mid.entries ≡ own_of is_named (without c.outpoint coins)
    = ap standing is ∙ standing_removed c.outpoint old.entries h.right h.once ∙ ap (without c.outpoint) h.are ∙ sym (own_without is_named c.outpoint coins) in
    record {
      are = ap standing last ∙ standing_more mid.entries c ∙ ap (λ l. l ++ c ∷ []) before
          ∙ sym (filter-append (λ (x : Coin). is_named x.script) (without c.outpoint coins) (c ∷ []) ∙ rw own refl);
      right = rw last (all_more _ mid.entries (c.outpoint, Some c) (rw is (right_removed c.outpoint old.entries h.right)) refl);
      once = once;
    }

-- a table of no entries
pub own_none : {S : Type 0} (own : IndexMap Outpoint (Option Coin) S) (is_named : Hash32 → Bool) → own.entries ≡ [] → AreOwn own is_named []
unfolding IsDistinct
own_none own is_named none = record { are = rw none refl; right = rw none tt; once = rw none tt }

-- ---- what the table says of an outpoint

-- whether the coin, if it is there, has the script hash
abbrev pub coin_has : List ℕ → Option Coin → Bool
coin_has s None = false
coin_has s (Some c) = bytes_eq c.script.0 s

-- no coin of an outpoint that no entry has
has_none : (s : List ℕ) (o : Outpoint) (es : List Kept) → StandRight es → AreApart o es → has_own s (standing es) o ≡ false
has_none s o [] right apart = refl
has_none s o ((k, None) ∷ es) right apart = has_none s o es right.1 apart.1
has_none s o ((k, Some c) ∷ es) right apart =
    let other : same_outpoint c.outpoint o ≡ false = ap (λ p. same_outpoint p o) right.0 ∙ apart_turned o k apart.0 in
    rw other (has_none s o es right.1 apart.1)

-- the coin of an outpoint has the script hash exactly where the table's does
has_entry : (s : List ℕ) (o : Outpoint) (es : List Kept) → StandRight es → IsDistinct same_outpoint (keys_of es)
    → has_own s (standing es) o ≡ coin_has s (option_flatten (lookup (same_outpoint o) es))
unfolding IsDistinct
has_entry s o [] right once = refl
has_entry s o ((k, None) ∷ es) right once = elim (cases_Bool (same_outpoint o k)) [
  | inl h ↦ rw h (has_none s o es right.1 (apart_from o k es (same_gives o k h) once.0))
  | inr h ↦ rw h (has_entry s o es right.1 once.1)
]
has_entry s o ((k, Some c) ∷ es) right once = elim (cases_Bool (same_outpoint o k)) [
  | inl h ↦
      let own : same_outpoint c.outpoint o ≡ true = same_from c.outpoint o (right.0 ∙ sym (same_gives o k h)) in
      let none = has_none s o es right.1 (apart_from o k es (same_gives o k h) once.0) in
      rw (h, own, none) (or-false (bytes_eq c.script.0 s))
  | inr h ↦
      let other : same_outpoint c.outpoint o ≡ false = ap (λ p. same_outpoint p o) right.0 ∙ apart_turned o k h in
      rw (h, other) (has_entry s o es right.1 once.1)
]

-- a coin of another script hash than one that is named
not_named : (is_named : Hash32 → Bool) (s : Hash32) (c : Coin) → is_named s ≡ true → is_named c.script ≡ false → bytes_eq c.script.0 s.0 ≡ false
not_named is_named s c named apart = by (bytes_eq c.script.0 s.0) refl
  where
    by : (b : Bool) → bytes_eq c.script.0 s.0 ≡ b → bytes_eq c.script.0 s.0 ≡ false
    by false e = e
    by true e = absurd (true≢false (sym named ∙ ap is_named (sym (hash_gives c.script s e)) ∙ apart))

-- the coins of a named script hash are among the own ones
has_of_own : (is_named : Hash32 → Bool) (s : Hash32) (coins : List Coin) (o : Outpoint) → is_named s ≡ true → has_own s.0 (own_of is_named coins) o ≡ has_own s.0 coins o
has_of_own is_named s [] o named = refl
has_of_own is_named s (c ∷ cs) o named = elim (cases_Bool (is_named c.script)) [
  | inl h ↦ rw h (ap (λ (b : Bool). (same_outpoint c.outpoint o && bytes_eq c.script.0 s.0) || b) (has_of_own is_named s cs o named))
  | inr h ↦
      let other = not_named is_named s c named h in
      rw (h, other) (has_of_own is_named s cs o named ∙ sym (dropped (same_outpoint c.outpoint o)))
]
  where
    dropped : (b : Bool) → ((b && false) || has_own s.0 cs o) ≡ has_own s.0 cs o
    dropped true = refl
    dropped false = refl

-- the table says of an outpoint whether its coin has a named script hash
pub own_says : {S : Type 0} (own : IndexMap Outpoint (Option Coin) S) (is_named : Hash32 → Bool) (coins : List Coin) (s : Hash32) (o : Outpoint) → AreOwn own is_named coins
    → is_named s ≡ true → has_own s.0 coins o ≡ coin_has s.0 (coin_in_table own o)
own_says own is_named coins s o h named =
    sym (has_of_own is_named s coins o named) ∙ ap (λ (l : List Coin). has_own s.0 l o) (sym h.are) ∙ has_entry s.0 o own.entries h.right h.once

-- the coins of a named script hash, of the own ones
pub with_of_own : (is_named : Hash32 → Bool) (s : Hash32) (coins : List Coin) → is_named s ≡ true → coins_with s (own_of is_named coins) ≡ coins_with s coins
with_of_own is_named s [] named = refl
with_of_own is_named s (c ∷ cs) named = elim (cases_Bool (is_named c.script)) [
  | inl h ↦ elim (cases_Bool (bytes_eq c.script.0 s.0)) [
    | inl g ↦ rw (h, g) (ap (λ (l : List Coin). c ∷ l) (with_of_own is_named s cs named))
    | inr g ↦ rw (h, g) (with_of_own is_named s cs named)
  ]
  | inr h ↦
      let other = not_named is_named s c named h in
      rw (h, other) (with_of_own is_named s cs named)
]

-- the values of a table's entries, without those that were taken
pub standing_values : (es : List Kept) → flat_map option_to_list (values_of es) ≡ standing es
standing_values [] = refl
standing_values (e ∷ es) = ap (λ l. option_to_list e.1 ++ l) (standing_values es)
