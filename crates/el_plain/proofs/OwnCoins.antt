-- A script hash's own coins in a table, in the order in which they were made.
use Rattle.std.proofs.Common.{◌≡◌, inl, inr, ℕ, ◌+◌, ◌<◌, true, false, List, [], ◌∷◌, ◌++◌, length, drop, get_or, Option, None, Some, refl, ap, sym, ◌∙◌, append_assoc, append-nil}
use Rattle.std.proofs.lemmas.Bool.{cases_Bool}
use Rattle.std.proofs.lemmas.List.Elements.{filter-append}
use Rattle.std.specs.List.{AllByRecursion, IsDistinct, flat_map}
use Rattle.std.specs.Option.{is_some}
use Rattle.std.specs.Prelude.{option_to_list}
use Rattle.std.specs.Str.{bytes_eq}
use Rattle.std.specs.Map.{keys_of, values_of, lookup, remove_entry}
use Rattle.indexmap.specs.IndexMap.{IndexMap, IsUnique, insert_entry}
use Rattle.indexmap.proofs.CallerLemmas.{insert_entry-new}
use Rattle.el_base.proofs.Lists.{all_more, left_at}
use Rattle.sha2.specs.Sha256.{sha256}
use Rattle.el_base.specs.declared.hash.Hash32.{Hash32}
use Rattle.el_tx.specs.declared.types.TxOut.{TxOut}
use Rattle.el_tx.specs.declared.types.Tx.{Tx}
use Rattle.el_chain.specs.declared.placed.Placed.{Placed}
use Rattle.el_chain.specs.Chains.{Chain}
use Rattle.el_tx.specs.declared.types.Outpoint.{Outpoint}
use Rattle.el_tx.specs.Hashing.{same_outpoint}
use Rattle.el_chain.specs.declared.coin.Coin.{Coin}
use Rattle.el_chain.specs.Coins.{without, add_coin, coin_made, coins_after_all, coins_from}
use Rattle.el_chain.proofs.CoinLists.{same_gives, same_from, apart_turned}
use Rattle.el_plain.specs.within.OwnCoins.{standing, coins_with_script, StandRight, HasOwnCoins}

-- a table's entry
abbrev pub Kept : Type 0
Kept = Outpoint × Option Coin

-- no entry has the outpoint
abbrev pub AreApart : Outpoint → List Kept → Type 0
AreApart o es = AllByRecursion (λ k. same_outpoint o k ≡ false) (keys_of es)

pub standing_apart : (o : Outpoint) (es : List Kept) → StandRight es → AreApart o es → without o (standing es) ≡ standing es
standing_apart o [] right apart = refl
standing_apart o ((k, None) ∷ es) right apart = standing_apart o es right.1 apart.1
standing_apart o ((k, Some c) ∷ es) right apart =
    let other : same_outpoint c.outpoint o ≡ false = ap (λ p. same_outpoint p o) right.0 ∙ apart_turned o k apart.0 in
    rw other (ap (λ l. c ∷ l) (standing_apart o es right.1 apart.1))

apart_from : (o k : Outpoint) (es : List Kept) → o ≡ k → AreApart k es → AreApart o es
apart_from o k es is apart = rw is apart

-- the coin of an outpoint is taken, and its place stays
pub standing_taken : (o : Outpoint) (es : List Kept) → StandRight es → IsDistinct same_outpoint (keys_of es) → standing (insert_entry same_outpoint es o None) ≡ without o (standing es)
unfolding IsDistinct
standing_taken o [] right once = refl
standing_taken o ((k, None) ∷ es) right once = elim (cases_Bool (same_outpoint o k)) [
  | inl h ↦ rw h (sym (standing_apart o es right.1 (apart_from o k es (same_gives o k h) once.0)))
  | inr h ↦ rw h (standing_taken o es right.1 once.1)
]
standing_taken o ((k, Some c) ∷ es) right once = elim (cases_Bool (same_outpoint o k)) [
  | inl h ↦
      let own : same_outpoint c.outpoint o ≡ true = same_from c.outpoint o (right.0 ∙ sym (same_gives o k h)) in
      rw (h, own) (sym (standing_apart o es right.1 (apart_from o k es (same_gives o k h) once.0)))
  | inr h ↦
      let other : same_outpoint c.outpoint o ≡ false = ap (λ p. same_outpoint p o) right.0 ∙ apart_turned o k h in
      rw (h, other) (ap (λ l. c ∷ l) (standing_taken o es right.1 once.1))
]

pub right_taken : (o : Outpoint) (es : List Kept) → StandRight es → StandRight (insert_entry same_outpoint es o None)
right_taken o [] right = (tt, tt)
right_taken o ((k, v) ∷ es) right = elim (cases_Bool (same_outpoint o k)) [
  | inl h ↦ rw h (tt, right.1)
  | inr h ↦ rw h (right.0, right_taken o es right.1)
]

-- the entry of an outpoint is removed
pub standing_removed : (o : Outpoint) (es : List Kept) → StandRight es → IsDistinct same_outpoint (keys_of es) → standing (remove_entry (same_outpoint o) es) ≡ without o (standing es)
unfolding IsDistinct
standing_removed o [] right once = refl
standing_removed o ((k, None) ∷ es) right once = elim (cases_Bool (same_outpoint o k)) [
  | inl h ↦ rw h (sym (standing_apart o es right.1 (apart_from o k es (same_gives o k h) once.0)))
  | inr h ↦ rw h (standing_removed o es right.1 once.1)
]
standing_removed o ((k, Some c) ∷ es) right once = elim (cases_Bool (same_outpoint o k)) [
  | inl h ↦
      let own : same_outpoint c.outpoint o ≡ true = same_from c.outpoint o (right.0 ∙ sym (same_gives o k h)) in
      rw (h, own) (sym (standing_apart o es right.1 (apart_from o k es (same_gives o k h) once.0)))
  | inr h ↦
      let other : same_outpoint c.outpoint o ≡ false = ap (λ p. same_outpoint p o) right.0 ∙ apart_turned o k h in
      rw (h, other) (ap (λ l. c ∷ l) (standing_removed o es right.1 once.1))
]

pub right_removed : (o : Outpoint) (es : List Kept) → StandRight es → StandRight (remove_entry (same_outpoint o) es)
right_removed o [] right = tt
right_removed o ((k, v) ∷ es) right = elim (cases_Bool (same_outpoint o k)) [
  | inl h ↦ rw h right.1
  | inr h ↦ rw h (right.0, right_removed o es right.1)
]

-- one more coin stands after the others
pub standing_more : (es : List Kept) (c : Coin) → standing (es ++ (c.outpoint, Some c) ∷ []) ≡ standing es ++ c ∷ []
standing_more [] c = refl
standing_more ((k, None) ∷ es) c = standing_more es c
standing_more ((k, Some d) ∷ es) c = ap (λ l. d ∷ l) (standing_more es c)

-- no entry has an outpoint that is not found
pub apart_none : (o : Outpoint) (es : List Kept) → lookup (same_outpoint o) es ≡ None → AreApart o es
apart_none o [] none = tt
apart_none o ((k, v) ∷ es) none = elim (cases_Bool (same_outpoint o k)) [
  | inl h ↦ let said = rw h at none in absurd (cc)
  | inr h ↦ let said = rw h at none in (h, apart_none o es said)
]

-- the own coins without one outpoint's
pub own_without : (script_hash : List ℕ) (o : Outpoint) (coins : List Coin) → coins_with_script script_hash (without o coins) ≡ without o (coins_with_script script_hash coins)
own_without script_hash o [] = refl
own_without script_hash o (c ∷ cs) = elim (cases_Bool (same_outpoint c.outpoint o)) [
  | inl h ↦ elim (cases_Bool (bytes_eq c.script.0 script_hash)) [
    | inl g ↦ rw (h, g, h) (own_without script_hash o cs)
    | inr g ↦ rw (h, g) (own_without script_hash o cs)
  ]
  | inr h ↦ elim (cases_Bool (bytes_eq c.script.0 script_hash)) [
    | inl g ↦ rw (h, g, h) (ap (λ l. c ∷ l) (own_without script_hash o cs))
    | inr g ↦ rw (h, g) (own_without script_hash o cs)
  ]
]

-- the coin of an outpoint is taken
pub own_taken : {S : Type 0} (old new : IndexMap Outpoint (Option Coin) S) (script_hash : List ℕ) (coins : List Coin) (o : Outpoint) → HasOwnCoins old script_hash coins
    → new.entries ≡ insert_entry same_outpoint old.entries o None → IsUnique same_outpoint new → HasOwnCoins new script_hash (without o coins)
own_taken old new script_hash coins o h is once = record {
  are = ap standing is ∙ standing_taken o old.entries h.right h.once ∙ ap (without o) h.are ∙ sym (own_without script_hash o coins);
  right = rw is (right_taken o old.entries h.right);
  once = once;
}

-- an outpoint has no coin to take
pub own_absent : {S : Type 0} (own : IndexMap Outpoint (Option Coin) S) (script_hash : List ℕ) (coins : List Coin) (o : Outpoint) → HasOwnCoins own script_hash coins
    → is_some (lookup (same_outpoint o) own.entries) ≡ false → HasOwnCoins own script_hash (without o coins)
own_absent own script_hash coins o h absent = record {
  are = sym (standing_apart o own.entries h.right (apart_none o own.entries (empty (lookup (same_outpoint o) own.entries) absent))) ∙ ap (without o) h.are ∙ sym (own_without script_hash o coins);
  right = h.right;
  once = h.once;
}
  where
    empty : (x : Option (Option Coin)) → is_some x ≡ false → x ≡ None
    empty None e = refl
    empty (Some x) e = absurd (cc)

-- a coin of another script hash is put in
pub own_other : {S : Type 0} (old mid : IndexMap Outpoint (Option Coin) S) (script_hash : List ℕ) (coins : List Coin) (c : Coin) → HasOwnCoins old script_hash coins
    → mid.entries ≡ remove_entry (same_outpoint c.outpoint) old.entries → IsUnique same_outpoint mid → bytes_eq c.script.0 script_hash ≡ false → HasOwnCoins mid script_hash (add_coin c coins)
own_other old mid script_hash coins c h is once other = record {
  are = ap standing is ∙ standing_removed c.outpoint old.entries h.right h.once ∙ ap (without c.outpoint) h.are ∙ sym (own_without script_hash c.outpoint coins)
      ∙ sym (filter-append (λ (x : Coin). bytes_eq x.script.0 script_hash) (without c.outpoint coins) (c ∷ []) ∙ rw other (append-nil (coins_with_script script_hash (without c.outpoint coins))));
  right = rw is (right_removed c.outpoint old.entries h.right);
  once = once;
}

-- a coin of the script hash is put in
pub own_put : {S : Type 0} (old mid new : IndexMap Outpoint (Option Coin) S) (script_hash : List ℕ) (coins : List Coin) (c : Coin) → HasOwnCoins old script_hash coins
    → mid.entries ≡ remove_entry (same_outpoint c.outpoint) old.entries → lookup (same_outpoint c.outpoint) mid.entries ≡ None
    → new.entries ≡ insert_entry same_outpoint mid.entries c.outpoint (Some c) → IsUnique same_outpoint new → bytes_eq c.script.0 script_hash ≡ true → HasOwnCoins new script_hash (add_coin c coins)
own_put old mid new script_hash coins c h is none put once own =
    let last : new.entries ≡ mid.entries ++ (c.outpoint, Some c) ∷ [] = put ∙ insert_entry-new same_outpoint mid c.outpoint (Some c) none in
    let before : standing mid.entries ≡ coins_with_script script_hash (without c.outpoint coins)
    = ap standing is ∙ standing_removed c.outpoint old.entries h.right h.once ∙ ap (without c.outpoint) h.are ∙ sym (own_without script_hash c.outpoint coins) in
    record {
      are = ap standing last ∙ standing_more mid.entries c ∙ ap (λ l. l ++ c ∷ []) before
          ∙ sym (filter-append (λ (x : Coin). bytes_eq x.script.0 script_hash) (without c.outpoint coins) (c ∷ []) ∙ rw own refl);
      right = rw last (all_more _ mid.entries (c.outpoint, Some c) (rw is (right_removed c.outpoint old.entries h.right)) refl);
      once = once;
    }

-- a table of no entries
pub own_none : {S : Type 0} (own : IndexMap Outpoint (Option Coin) S) (script_hash : List ℕ) → own.entries ≡ [] → HasOwnCoins own script_hash []
unfolding IsDistinct
own_none own script_hash none = record { are = rw none refl; right = rw none tt; once = rw none tt }

-- the coin of an output
pub coin_is : (id script : Hash32) (height index : ℕ) (o : TxOut) → script.0 ≡ sha256 o.script
    → record { outpoint = record { txid = id; index = index }; value = o.value; script = script; height = height } ≡ coin_made id height index o
coin_is id script height index o is =
    ap (λ (bytes : List ℕ). record { outpoint = record { txid = id; index = index }; value = o.value; script = record { 0 = bytes }; height = height }) is

-- what holds of an item and of those after it
pub all_after : {X : Type 0} (P : X → Type 0) (xs : List X) (n : ℕ) (x : X) → n < length xs → x ≡ get_or xs n x → AllByRecursion P (drop n xs) → AllByRecursion P (drop (n + 1) xs)
all_after P xs n x lt is all =
    let left = left_at xs n x lt is in
    let here = rw left at all in
    here.1

pub all_here : {X : Type 0} (P : X → Type 0) (xs : List X) (n : ℕ) (x : X) → n < length xs → x ≡ get_or xs n x → AllByRecursion P (drop n xs) → P x
all_here P xs n x lt is all =
    let left = left_at xs n x lt is in
    let here = rw left at all in
    here.0

-- a block's coins were put in, and those of the blocks after it are left
pub coins_step : (n : ℕ) (chain : Chain) (b : Placed) (ts : List Tx) (mid : List Coin) → n < length chain → b ≡ get_or chain n b → ts ≡ b.block.txs
    → coins_from n (drop n chain) mid ≡ coins_from (n + 1) (drop (n + 1) chain) (coins_after_all n ts mid)
coins_step n chain b ts mid lt is txs =
    let left = left_at chain n b lt is in
    ap (λ (bs : Chain). coins_from n bs mid) left ∙ ap (λ (us : List Tx). coins_from (n + 1) (drop (n + 1) chain) (coins_after_all n us mid)) (sym txs)

-- the values of a table's entries, without those that were taken
pub standing_values : (es : List Kept) → flat_map option_to_list (values_of es) ≡ standing es
standing_values [] = refl
standing_values (e ∷ es) = ap (λ l. option_to_list e.1 ++ l) (standing_values es)

-- one more value was looked at
pub kept_more : (found new whole : List Coin) (x : Option Coin) (rest before : List (Option Coin)) → before ≡ x ∷ rest → new ≡ found ++ option_to_list x
    → found ++ flat_map option_to_list before ≡ whole → new ++ flat_map option_to_list rest ≡ whole
kept_more found new whole x rest before is more so =
    ap (λ l. l ++ flat_map option_to_list rest) more ∙ append_assoc found (option_to_list x) (flat_map option_to_list rest)
    ∙ ap (λ l. found ++ flat_map option_to_list l) (sym is) ∙ so
