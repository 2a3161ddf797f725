-- Tables under changes.
use Rattle.std.proofs.Common.{◌≡◌, ◌≢◌, ◌<◌, ◌≤◌, ◌+◌, ◌-◌, ℕ, List, [], ◌∷◌, ◌++◌, Bool, true, false, cond, Some, None, Option, refl, ap, sym, ◌∙◌, arith, subst, ⊎_elim, length, get_or, take, unwrap_or, length-append}
use Rattle.std.proofs.Math.ListN.{set, length-set}
use Rattle.std.proofs.lemmas.List.{get_or-set_same, get_or-set_other, get_or_append_left, get_or-append_right}
use Rattle.std.proofs.lemmas.List.FromFn.{length-map-range_with_len, get_or-map-range_with_len, fill_by_all, take-map-range_with_len}
use Rattle.std.proofs.lemmas.Bool.{cases_eq}
use Rattle.std.specs.BTreeMap.{is_at}
use Rattle.el_row_formats.specs.declared.table.Table.{Table}
use Rattle.el_row_formats.specs.Tables.{Tables, row_cmp, key}
use Rattle.el_rows.specs.Changes.{Changes, changed_at, count_at, row_under, under, Sets, OnTable}
use Rattle.el_row_formats.proofs.Keys.{self_key, other_key}

-- how many rows there are
pub length-under : (lists : Tables) (counts : List ℕ) (changes : Changes) (t : Table) → length (under lists counts changes t) ≡ count_at counts t
unfolding under
length-under lists counts changes t = length-map-range_with_len (row_under lists changes t) 0 (count_at counts t)

-- one of them
pub get_or-under : (lists : Tables) (counts : List ℕ) (changes : Changes) (t : Table) (i : ℕ) → i < count_at counts t → get_or (under lists counts changes t) i [] ≡ row_under lists changes t i
unfolding under
get_or-under lists counts changes t i lt = get_or-map-range_with_len (row_under lists changes t) 0 (count_at counts t) i i [] lt (omega arith)

-- all of them
pub is_under : (lists : Tables) (counts : List ℕ) (changes : Changes) (t : Table) (xs : List (List ℕ)) → length xs ≡ count_at counts t
    → ((i : ℕ) → i < count_at counts t → get_or xs i [] ≡ row_under lists changes t i) → under lists counts changes t ≡ xs
unfolding under
is_under lists counts changes t xs len each = sym (fill_by_all (row_under lists changes t) xs (count_at counts t) [] len each)

-- the same rows, by whatever changes
pub same_under : (lists more : Tables) (counts others : List ℕ) (changes new : Changes) (t : Table) → count_at others t ≡ count_at counts t
    → ((i : ℕ) → i < count_at counts t → row_under lists changes t i ≡ row_under more new t i) → under more others new t ≡ under lists counts changes t
same_under lists more counts others changes new t same each = is_under more others new t (under lists counts changes t) (length-under lists counts changes t ∙ sym same)
    (λ i lt. let le : i < count_at counts t = subst (λ n. i < n) same lt in get_or-under lists counts changes t i le ∙ each i le)

module _ (old new : Changes) (t : Table) (i : ℕ) (row : List ℕ) (sets : Sets old new t i row) where
  pub set_here : changed_at new t i ≡ Some row
  set_here = sets.each t i ∙ ap (λ b. cond b (Some row) (changed_at old t i)) (self_key t i)

  pub set_elsewhere : (u : Table) (j : ℕ) → (t ≡ u → i ≡ j → ⊥) → changed_at new u j ≡ changed_at old u j
  set_elsewhere u j apart = sets.each u j ∙ ap (λ b. cond b (Some row) (changed_at old u j)) (other_key t u i j apart)

  -- what is not changed now was not changed before
  pub set_none : (u : Table) (j : ℕ) → changed_at new u j ≡ None → changed_at old u j ≡ None
  set_none u j none = none_before (is_at (row_cmp (key t i)) (key u j)) (changed_at old u j) (sym (sets.each u j) ∙ none)
    where
      none_before : (b : Bool) (o : Option (List ℕ)) → cond b (Some row) o ≡ None → o ≡ None
      none_before true o h = cc
      none_before false o h = h

  -- a row is written over one that is there
  pub put_under : (lists : Tables) (counts : List ℕ) → i < count_at counts t → OnTable (under lists counts old) (under lists counts new) t (set (under lists counts old t) i row)
  put_under lists counts lt = record {
    here = is_under lists counts new t (set (under lists counts old t) i row) (length-set (under lists counts old t) i row ∙ length-under lists counts old t)
        (λ j le. ⊎_elim
        (λ (e : i ≡ j). subst (λ (k : ℕ). get_or (set (under lists counts old t) i row) k [] ≡ row_under lists new t k) e
        (get_or-set_same (under lists counts old t) i row [] (subst (λ n. i < n) (sym (length-under lists counts old t)) lt) ∙ sym (ap (λ o. unwrap_or o (get_or (lists t) i [])) set_here)))
        (λ (ne : i ≢ j). get_or-set_other (under lists counts old t) i j row [] (λ e. ne (sym e)) ∙ get_or-under lists counts old t j le ∙ sym (ap (λ o. unwrap_or o (get_or (lists t) j [])) (set_elsewhere t j (λ _. ne))))
        (cases_eq i j));
    others = λ u ne. same_under lists lists counts counts old new u refl (λ j le. sym (ap (λ o. unwrap_or o (get_or (lists u) j [])) (set_elsewhere u j (λ e _. ne (sym e)))));
  }

  -- a row is written after the last
  pub append_under : (lists : Tables) (counts more : List ℕ) → count_at counts t ≡ i → count_at more t ≡ i + 1 → ((u : Table) → u ≢ t → count_at more u ≡ count_at counts u)
      → OnTable (under lists counts old) (under lists more new) t (under lists counts old t ++ row ∷ [])
  append_under lists counts more is_last one_more stay = record {
    here = is_under lists more new t (under lists counts old t ++ row ∷ []) (omega (arith, length-append (under lists counts old t) (row ∷ []), length-under lists counts old t))
        (λ j le. ⊎_elim
        (λ (e : i ≡ j). subst (λ (k : ℕ). get_or (under lists counts old t ++ row ∷ []) k [] ≡ row_under lists new t k) e
        (get_or-append_right (under lists counts old t) (row ∷ []) i i [] (length-under lists counts old t ∙ is_last) (omega arith) ∙ ap (λ k. get_or (row ∷ []) k []) (let zero_is : i - i ≡ 0 = omega arith in zero_is) ∙ sym (ap (λ o. unwrap_or o (get_or (lists t) i [])) set_here)))
        (λ (ne : i ≢ j). let below : j < count_at counts t = omega arith in
        get_or_append_left (under lists counts old t) (row ∷ []) [] j (subst (λ n. j < n) (sym (length-under lists counts old t)) below) ∙ get_or-under lists counts old t j below ∙ sym (ap (λ o. unwrap_or o (get_or (lists t) j [])) (set_elsewhere t j (λ _. ne))))
        (cases_eq i j));
    others = λ u ne. same_under lists lists counts more old new u (stay u ne) (λ j le. sym (ap (λ o. unwrap_or o (get_or (lists u) j [])) (set_elsewhere u j (λ e _. ne (sym e)))));
  }

-- the last rows go
pub shrink_under : (lists : Tables) (counts less : List ℕ) (changes : Changes) (t : Table) → count_at less t ≤ count_at counts t → ((u : Table) → u ≢ t → count_at less u ≡ count_at counts u)
    → OnTable (under lists counts changes) (under lists less changes) t (take (count_at less t) (under lists counts changes t))
unfolding under
shrink_under lists counts less changes t le stay = record {
  here = sym (take-map-range_with_len (row_under lists changes t) 0 (count_at counts t) (count_at less t) le);
  others = λ u ne. same_under lists lists counts less changes changes u (stay u ne) (λ j lt. refl);
}
