-- What is found among the entries of a cache after its calls.
use Rattle.std.proofs.Common.{◌≡◌, ◌≢◌, ◌⊎◌, inl, inr, ⊎_elim, ℕ, zero, suc, ◌-◌, List, [], ◌∷◌, true, false, cond, Option, Some, None, option_map, take, refl, sym, ◌∙◌, ap, arith}
use Rattle.std.specs.Prelude.{nat_eq}
use Rattle.std.specs.Option.{option_map_or}
use Rattle.std.specs.Map.{lookup, lookup_entry, remove_entry, set_value}
use Rattle.std.proofs.lemmas.Bool.{cases_eq, cond-true, cond-false}
use Rattle.std.proofs.lemmas.Map.Entries.{lookup_head, lookup_tail}
use Rattle.lru.specs.LruCache.{LruCache, promoted, put_entries}
use Rattle.lru.proofs.CallerLemmas.{Contains-lookup_entry}
use Rattle.lru.proofs.Pairs.{lookup-lookup_entry}

pub eq_true : (i j : ℕ) → i ≡ j → nat_eq i j ≡ true
eq_true i j e = grind arith

pub eq_false : (i j : ℕ) → i ≢ j → nat_eq i j ≡ false
eq_false i j ne = grind arith

is_eq : (i j : ℕ) → nat_eq i j ≡ true → i ≡ j
is_eq i j e = grind (arith, e)

module _ {X : Type 0} where
  abbrev found : ℕ → List (ℕ × X) → Option X
  found q es = lookup (nat_eq q) es

  -- at the front, and after it
  here : (q : ℕ) (e : ℕ × X) (es : List (ℕ × X)) → q ≡ e.0 → found q (e ∷ es) ≡ Some e.1
  here q e es is = lookup_head (nat_eq q) e es (eq_true q e.0 is)

  later : (q : ℕ) (e : ℕ × X) (es : List (ℕ × X)) → q ≢ e.0 → found q (e ∷ es) ≡ found q es
  later q e es ne = lookup_tail (nat_eq q) e es (eq_false q e.0 ne)

  -- an entry that is found by its key
  entry_key : (k : ℕ) (es : List (ℕ × X)) (f : ℕ × X) → lookup_entry (nat_eq k) es ≡ Some f → k ≡ f.0
  entry_key k es f is = is_eq k f.0 (Contains-lookup_entry (nat_eq k) es f is).1

  entry_value : (k : ℕ) (es : List (ℕ × X)) (f : ℕ × X) → lookup_entry (nat_eq k) es ≡ Some f → found k es ≡ Some f.1
  entry_value k es f is = sym (lookup-lookup_entry (nat_eq k) es) ∙ mapped (lookup_entry (nat_eq k) es) is
    where
      mapped : (o : Option (ℕ × X)) → o ≡ Some f → option_map (λ (e : ℕ × X). e.1) o ≡ Some f.1
      mapped o some = ap (λ (p : Option (ℕ × X)). option_map (λ (e : ℕ × X). e.1) p) some

  -- of other keys the same is found
  removed : (q k : ℕ) (es : List (ℕ × X)) → q ≢ k → found q (remove_entry (nat_eq k) es) ≡ found q es
  removed q k [] ne = refl
  removed q k (e ∷ es) ne = ⊎_elim
      (λ (is : k ≡ e.0).
      ap (λ (l : List (ℕ × X)). found q l) (cond-true (nat_eq k e.0) es (e ∷ remove_entry (nat_eq k) es) (eq_true k e.0 is))
      ∙ sym (later q e es (λ same. ne (same ∙ sym is))))
      (λ (other : k ≢ e.0).
      ap (λ (l : List (ℕ × X)). found q l) (cond-false (nat_eq k e.0) es (e ∷ remove_entry (nat_eq k) es) (eq_false k e.0 other))
      ∙ ap (λ (o : Option X). cond (nat_eq q e.0) (Some e.1) o) (removed q k es ne))
      (cases_eq k e.0)

  front_same : (q k : ℕ) (es : List (ℕ × X)) (o : Option (ℕ × X)) → lookup_entry (nat_eq k) es ≡ o
      → found q (option_map_or (λ e. e ∷ remove_entry (nat_eq k) es) o es) ≡ found q es
  front_same q k es None is = refl
  front_same q k es (Some f) is =
      let key = entry_key k es f is in
      ⊎_elim
      (λ (same : q ≡ k). here q f (remove_entry (nat_eq k) es) (same ∙ key) ∙ sym (ap (λ (n : ℕ). found n es) same ∙ entry_value k es f is))
      (λ (ne : q ≢ k). later q f (remove_entry (nat_eq k) es) (λ h. ne (h ∙ sym key)) ∙ removed q k es ne)
      (cases_eq q k)

  -- an entry that goes first changes nothing of what is found
  pub lookup-promoted : (q k : ℕ) (es : List (ℕ × X)) → lookup (nat_eq q) (promoted (nat_eq k) es) ≡ lookup (nat_eq q) es
  lookup-promoted q k es = front_same q k es (lookup_entry (nat_eq k) es) refl

  -- what is found among the first entries is found among all
  pub taken : (q n : ℕ) (es : List (ℕ × X)) (w : X) → found q (take n es) ≡ Some w → found q es ≡ Some w
  taken q zero es w is = cc
  taken q (suc n) [] w is = cc
  taken q (suc n) (e ∷ es) w is = ⊎_elim
      (λ (same : q ≡ e.0). here q e es same ∙ sym (here q e (take n es) same) ∙ is)
      (λ (ne : q ≢ e.0). later q e es ne ∙ taken q n es w (sym (later q e (take n es) ne) ∙ is))
      (cases_eq q e.0)

  some_same : (x y : X) → Some x ≡ Some y → y ≡ x
  some_same x y is = cc

  first_or_later : (q k : ℕ) (v w : X) (rest es : List (ℕ × X)) → (q ≢ k → found q rest ≡ Some w → found q es ≡ Some w) → found q ((k, v) ∷ rest) ≡ Some w
      → ((q ≡ k) × (w ≡ v)) ⊎ (found q es ≡ Some w)
  first_or_later q k v w rest es among is = ⊎_elim
      (λ (same : q ≡ k). inl (same, some_same v w (sym (here q (k, v) rest same) ∙ is)))
      (λ (ne : q ≢ k). inr (among ne (sym (later q (k, v) rest ne) ∙ is)))
      (cases_eq q k)

  module _ (c : LruCache ℕ X) (k : ℕ) (v : X) where
    put_cases : (q : ℕ) (w : X) (o : Option (ℕ × X)) → lookup_entry (nat_eq k) c.entries ≡ o
        → found q (option_map_or (λ e. (e.0, v) ∷ remove_entry (nat_eq k) c.entries) o ((k, v) ∷ take (c.cap - 1) c.entries)) ≡ Some w
        → ((q ≡ k) × (w ≡ v)) ⊎ (found q c.entries ≡ Some w)
    put_cases q w None is there = first_or_later q k v w (take (c.cap - 1) c.entries) c.entries (λ ne h. taken q (c.cap - 1) c.entries w h) there
    put_cases q w (Some f) is there =
        let key = entry_key k c.entries f is in
        ⊎_elim
        (λ new. inl (new.0 ∙ sym key, new.1))
        (λ old. inr old)
        (first_or_later q f.0 v w (remove_entry (nat_eq k) c.entries) c.entries (λ ne h. sym (removed q k c.entries (λ same. ne (same ∙ key))) ∙ h) there)

    -- what is found after an entry was put is that entry, or was found before
    pub lookup-put : (q : ℕ) (w : X) → lookup (nat_eq q) (put_entries nat_eq c k v) ≡ Some w → ((q ≡ k) × (w ≡ v)) ⊎ (lookup (nat_eq q) c.entries ≡ Some w)
    lookup-put q w there = put_cases q w (lookup_entry (nat_eq k) c.entries) refl there

  module _ (k : ℕ) (v w : X) where
    -- of the key whose value is written the new one is found
    pub set_here : (q : ℕ) (es : List (ℕ × X)) → q ≡ k → found k es ≡ Some v → found q (set_value (nat_eq k) es w) ≡ Some w
    set_here q [] is there = cc
    set_here q (e ∷ es) is there = ⊎_elim
        (λ (same : k ≡ e.0).
        ap (λ (l : List (ℕ × X)). found q l) (cond-true (nat_eq k e.0) ((e.0, w) ∷ es) (e ∷ set_value (nat_eq k) es w) (eq_true k e.0 same))
        ∙ here q (e.0, w) es (is ∙ same))
        (λ (ne : k ≢ e.0).
        ap (λ (l : List (ℕ × X)). found q l) (cond-false (nat_eq k e.0) ((e.0, w) ∷ es) (e ∷ set_value (nat_eq k) es w) (eq_false k e.0 ne))
        ∙ later q e (set_value (nat_eq k) es w) (λ h. ne (sym is ∙ h))
        ∙ set_here q es is (sym (later k e es ne) ∙ there))
        (cases_eq k e.0)

    -- and of others what was found
    pub set_elsewhere : (q : ℕ) (es : List (ℕ × X)) → q ≢ k → found q (set_value (nat_eq k) es w) ≡ found q es
    set_elsewhere q [] ne = refl
    set_elsewhere q (e ∷ es) ne = ⊎_elim
        (λ (same : k ≡ e.0).
        ap (λ (l : List (ℕ × X)). found q l) (cond-true (nat_eq k e.0) ((e.0, w) ∷ es) (e ∷ set_value (nat_eq k) es w) (eq_true k e.0 same))
        ∙ later q (e.0, w) es (λ h. ne (h ∙ sym same)) ∙ sym (later q e es (λ h. ne (h ∙ sym same))))
        (λ (other : k ≢ e.0).
        ap (λ (l : List (ℕ × X)). found q l) (cond-false (nat_eq k e.0) ((e.0, w) ∷ es) (e ∷ set_value (nat_eq k) es w) (eq_false k e.0 other))
        ∙ ap (λ (o : Option X). cond (nat_eq q e.0) (Some e.1) o) (set_elsewhere q es ne))
        (cases_eq k e.0)
