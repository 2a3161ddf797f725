-- One version more.
use Rattle.std.proofs.Common.{◌≡◌, ◌⊎◌, inl, inr, ⊎_elim, ◌<◌, ◌≤◌, ◌+◌, ◌-◌, ℕ, List, [], ◌∷◌, ◌++◌, length, get_or, refl, ap, sym, ◌∙◌, arith, subst, length-append}
use Rattle.std.proofs.lemmas.List.{get_or_append_left, get_or-append_right}
use Rattle.std.proofs.lemmas.Bool.{cases_lt}
use Rattle.el_outside.specs.Moments.{LeavesOnly}
use Rattle.el_row_formats.specs.declared.table.Table.{Table}
use Rattle.el_row_formats.specs.Tables.{Tables, tables_listed}
use Rattle.el_rows.specs.Changes.{Changes, under}
use Rattle.el_rows.specs.Reads.{Same, IsEither}
use Rattle.el_laws.specs.Versions.{last_version, IsOneSince, only_last}

module _ (versions : List (List (List (List ℕ)))) (new : List (List (List ℕ))) where
  pub more_length : length (versions ++ new ∷ []) ≡ length versions + 1
  more_length = length-append versions (new ∷ [])

  old_version : (k : ℕ) → k < length versions → get_or (versions ++ new ∷ []) k [] ≡ get_or versions k []
  old_version k lt = get_or_append_left versions (new ∷ []) [] k lt

  new_version : (k : ℕ) → k ≡ length versions → get_or (versions ++ new ∷ []) k [] ≡ new
  new_version k is = get_or-append_right versions (new ∷ []) k k [] (sym is) (omega arith) ∙ ap (λ n. get_or (new ∷ []) n []) (let e : k - k ≡ 0 = omega arith in e)

  pub last_more : (all : List (List (List (List ℕ)))) → all ≡ versions ++ new ∷ [] → last_version all ≡ new
  last_more all is = rw is (new_version (length (versions ++ new ∷ []) - 1) (omega (arith, more_length)))

  -- a version of the longer list is one of the shorter or the new one
  pub one_more_since : (t : ℕ) (c : Tables) → IsOneSince (versions ++ new ∷ []) t c → IsOneSince versions t c ⊎ Same (tables_listed new) c
  one_more_since t c one = ⊎_elim
      (λ lt. inl (one.0, one.1, lt, λ u. one.3 u ∙ ap (λ (v : List (List (List ℕ))). tables_listed v u) (old_version one.0 lt)))
      (λ ge. inr (λ u. one.3 u ∙ ap (λ (v : List (List (List ℕ))). tables_listed v u) (new_version one.0 (omega (arith, ge, one.2, more_length)))))
      (cases_lt one.0 (length versions))

-- one commit more, at whose end the moment is that of the old last version or a later one
pub committed : {S : Type 0} (heads : ℕ) (moment : S → ℕ) (left_since : S → ℕ → Tables → Type 0) (old new : S) (versions all : List (List (List (List ℕ)))) (version : List (List (List ℕ))) (lists under : Tables)
    → all ≡ versions ++ version ∷ [] → ((t : ℕ) (c : Tables) → left_since new t c → IsOneSince all t c) → ((t : ℕ) (c : Tables) → IsOneSince versions t c → left_since old t c)
    → length versions ≤ moment old + 1 → moment old ≤ moment new → lists ≡ tables_listed (last_version versions) → ((t : Table) → tables_listed version t ≡ under t)
    → LeavesOnly moment left_since old new (IsEither (λ c l. (heads ≡ heads) × Same l c) lists under)
committed heads moment left_since old new versions all version lists under is out in' most later lists_are are = record {
  later = later;
  each = λ c left. ⊎_elim
      (λ was. inl (refl, λ t. only_last versions (moment old) c most was t ∙ sym (ap (λ (l : Tables). l t) lists_are)))
      (λ now. inr (refl, λ t. now t ∙ are t))
      (cut (moment old) c left);
  before = λ t c le left. ⊎_elim (λ was. inl (in' t c was)) (λ now. inr (inr (refl, λ u. now u ∙ are u))) (cut t c left);
}
  where
    cut : (t : ℕ) (c : Tables) → left_since new t c → IsOneSince versions t c ⊎ Same (tables_listed version) c
    cut t c left = one_more_since versions version t c (rw is at out t c left)

-- a copy that was edited
pub edited : (copy last new : List (List (List ℕ))) (counts : List ℕ) (changes : Changes) → copy ≡ last → Same (under (tables_listed copy) counts changes) (tables_listed new) → Same (under (tables_listed last) counts changes) (tables_listed new)
edited copy last new counts changes is same = subst (λ (v : List (List (List ℕ))). Same (under (tables_listed v) counts changes) (tables_listed new)) is same
