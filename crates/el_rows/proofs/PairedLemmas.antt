-- Numbers with their rows.
use Rattle.std.proofs.Common.{◌≡◌, ◌≢◌, ◌<◌, ◌≤◌, ◌+◌, ◌-◌, ℕ, zero, suc, List, [], ◌∷◌, ◌++◌, Bool, true, false, cond, Some, None, Option, refl, ap, sym, ◌∙◌, arith, subst, ⊎_elim, length, get_or, not}
use Rattle.std.specs.Prelude.{nat_lt, nat_eq, slice_get}
use Rattle.std.specs.List.{position, position_or_len}
use Rattle.std.specs.Map.{lookup, keys_of}
use Rattle.std.proofs.lemmas.Option.{slice_get-get_or, slice_get_past}
use Rattle.std.proofs.lemmas.Bool.{cases_eq, eqb-true}
use Rattle.std.proofs.lemmas.List.Quantifiers.{position-Some}
use Rattle.el_rows.specs.within.EditedTables.{EditedTable, edited_at, paired, IsWritten}
use Rattle.el_rows.specs.SizedRows.{SizedRows}
use Rattle.el_rows.proofs.EditedLemmas.{eq_true, eq_false, if_true, if_false, lookup_after, lookup_before}

-- the numbers of the pairs
pub keys_paired : (ns : List ℕ) (rows : List (List ℕ)) → length ns ≤ length rows → keys_of (paired ns rows) ≡ ns
keys_paired [] rows le = refl
keys_paired (n ∷ ns) [] le = absurd (omega (arith, le))
keys_paired (n ∷ ns) (row ∷ rows) le = ap (λ (xs : List ℕ). n ∷ xs) (keys_paired ns rows (omega (arith, le)))

-- rows after those of the numbers don't count, nor do others that are the same
pub paired_same : (ns : List ℕ) (rows more : List (List ℕ)) → length ns ≤ length rows → ((k : ℕ) → k < length ns → slice_get more k ≡ slice_get rows k) → paired ns more ≡ paired ns rows
paired_same [] rows more le same = refl
paired_same (n ∷ ns) [] more le same = absurd (omega (arith, le))
paired_same (n ∷ ns) (row ∷ rows) [] le same = absurd (let no : None ≡ Some row = same zero (omega arith) in cc)
paired_same (n ∷ ns) (row ∷ rows) (new ∷ more) le same =
    let first : Some new ≡ Some row = same zero (omega arith) in
    let rest : paired ns more ≡ paired ns rows = paired_same ns rows more (omega (arith, le)) (λ k lt. same (suc k) (omega (arith, lt))) in
    let one : new ≡ row = cc in
    ap (λ (r : List ℕ). (n, r) ∷ paired ns more) one ∙ ap (λ (ps : List (ℕ × List ℕ)). (n, row) ∷ ps) rest

-- one number more, whose row is there
pub paired_more : (ns : List ℕ) (rows : List (List ℕ)) (i : ℕ) (row : List ℕ) → slice_get rows (length ns) ≡ Some row → paired (ns ++ i ∷ []) rows ≡ paired ns rows ++ (i, row) ∷ []
paired_more [] [] i row is = absurd (let no : None ≡ Some row = is in cc)
paired_more [] (new ∷ rows) i row is = let one : new ≡ row = cc in last rows one
  where
    last : (rows : List (List ℕ)) → new ≡ row → (i, new) ∷ paired [] rows ≡ (i, row) ∷ []
    last rows one = ap (λ (r : List ℕ). (i, r) ∷ []) one
paired_more (n ∷ ns) [] i row is = absurd (let no : None ≡ Some row = is in cc)
paired_more (n ∷ ns) (new ∷ rows) i row is = ap (λ (ps : List (ℕ × List ℕ)). (n, new) ∷ ps) (paired_more ns rows i row is)

-- what is found of a number is the row of its place
abbrev at_place : List ℕ → List (List ℕ) → ℕ → Option (List ℕ)
at_place ns rows k = cond (nat_lt k (length ns)) (slice_get rows k) None

pub found : (i : ℕ) (ns : List ℕ) (rows : List (List ℕ)) → length ns ≤ length rows → lookup (nat_eq i) (paired ns rows) ≡ at_place ns rows (position_or_len (nat_eq i) ns)
found i [] rows le = sym (ap (λ b. cond b (slice_get rows zero) None) (let b : nat_lt zero zero ≡ false = grind arith in b))
found i (n ∷ ns) [] le = absurd (omega (arith, le))
found i (n ∷ ns) (row ∷ rows) le = step (nat_eq i n) (position_or_len (nat_eq i) ns) (found i ns rows (omega (arith, le)))
  where
    step : (b : Bool) (k : ℕ) → lookup (nat_eq i) (paired ns rows) ≡ at_place ns rows k → cond b (Some row) (lookup (nat_eq i) (paired ns rows)) ≡ at_place (n ∷ ns) (row ∷ rows) (cond (not b) (1 + k) 0)
    step true k so_far = sym (ap (λ b. cond b (Some row) None) (let b : nat_lt zero (suc (length ns)) ≡ true = grind arith in b))
    step false k so_far = so_far ∙ ap (λ b. cond b (slice_get rows k) None) (let b : nat_lt k (length ns) ≡ nat_lt (suc k) (suc (length ns)) = grind arith in b)
        ∙ ap (λ m. at_place (n ∷ ns) (row ∷ rows) m) (let m : suc k ≡ 1 + k = omega arith in m)

-- whether there is a place, and which
place_is : (b : Bool) (k p : ℕ) → cond b (Some k) None ≡ Some p → (b ≡ true) × (k ≡ p)
place_is true k p h = (refl, cc)
place_is false k p h = cc

no_place : (b : Bool) (k : ℕ) → cond b (Some k) None ≡ None → b ≡ false
no_place true k h = cc
no_place false k h = refl

-- the numbers at two places, where they are the same
one_number : (i j : ℕ) (ns : List ℕ) (p : ℕ) → position (nat_eq i) ns ≡ Some p → position (nat_eq j) ns ≡ Some p → i ≡ j
one_number i j ns p first second = eqb-true i (get_or ns p 0) (position-Some (nat_eq i) ns p 0 first).1 ∙ sym (eqb-true j (get_or ns p 0) (position-Some (nat_eq j) ns p 0 second).1)

-- a row is written over that of a number which is there
pub written_known : (i : ℕ) (ns : List ℕ) (rows more : List (List ℕ)) (p : ℕ) (row : List ℕ) → length ns ≤ length rows → position (nat_eq i) ns ≡ Some p → IsWritten rows more p row
    → (j : ℕ) → lookup (nat_eq j) (paired ns more) ≡ cond (nat_eq i j) (Some row) (lookup (nat_eq j) (paired ns rows))
written_known i ns rows more p row le is written j =
    found j ns more (omega (arith, le, written.longer)) ∙ ⊎_elim
    (λ (e : i ≡ j). subst (λ (n : ℕ). at_place ns more (position_or_len (nat_eq n) ns) ≡ cond (nat_eq i n) (Some row) (lookup (nat_eq n) (paired ns rows))) e
    (ap (λ k. at_place ns more k) here.1 ∙ if_true (nat_lt p (length ns)) (slice_get more p) None (subst (λ k. nat_lt k (length ns) ≡ true) here.1 here.0) ∙ written.each p ∙ if_true (nat_eq p p) (Some row) (slice_get rows p) (eq_true p p refl)
    ∙ sym (if_true (nat_eq i i) (Some row) (lookup (nat_eq i) (paired ns rows)) (eq_true i i refl))))
    (λ (ne : i ≢ j). others ne (nat_lt (position_or_len (nat_eq j) ns) (length ns)) refl ∙ sym (found j ns rows le) ∙ sym (if_false (nat_eq i j) (Some row) (lookup (nat_eq j) (paired ns rows)) (eq_false i j ne)))
    (cases_eq i j)
  where
    here : (nat_lt (position_or_len (nat_eq i) ns) (length ns) ≡ true) × (position_or_len (nat_eq i) ns ≡ p)
    here = place_is (nat_lt (position_or_len (nat_eq i) ns) (length ns)) (position_or_len (nat_eq i) ns) p is

    others : i ≢ j → (b : Bool) → nat_lt (position_or_len (nat_eq j) ns) (length ns) ≡ b → at_place ns more (position_or_len (nat_eq j) ns) ≡ at_place ns rows (position_or_len (nat_eq j) ns)
    others ne true b_is =
        let q = position_or_len (nat_eq j) ns in
        let apart : p ≢ q = (λ e. ne (one_number i j ns q (is ∙ ap Some e) (if_true (nat_lt q (length ns)) (Some q) None b_is))) in
        ap (λ o. cond (nat_lt q (length ns)) o None) (written.each q ∙ if_false (nat_eq p q) (Some row) (slice_get rows q) (eq_false p q apart))
    others ne false b_is =
        let q = position_or_len (nat_eq j) ns in
        if_false (nat_lt q (length ns)) (slice_get more q) None b_is ∙ sym (if_false (nat_lt q (length ns)) (slice_get rows q) None b_is)

-- and before its number is there nothing has changed
pub written_beside : (ns : List ℕ) (rows more : List (List ℕ)) (row : List ℕ) → length ns ≤ length rows → IsWritten rows more (length ns) row → paired ns more ≡ paired ns rows
written_beside ns rows more row le written = paired_same ns rows more le (λ k lt. written.each k ∙ if_false (nat_eq (length ns) k) (Some row) (slice_get rows k) (eq_false (length ns) k (λ e. omega (arith, lt, e))))

-- a row is written for a number that was not there
pub written_new : (i : ℕ) (ns : List ℕ) (rows more : List (List ℕ)) (row : List ℕ) → length ns ≤ length rows → position (nat_eq i) ns ≡ None → IsWritten rows more (length ns) row
    → (j : ℕ) → lookup (nat_eq j) (paired (ns ++ i ∷ []) more) ≡ cond (nat_eq i j) (Some row) (lookup (nat_eq j) (paired ns rows))
written_new i ns rows more row le none written j =
    ap (λ (ps : List (ℕ × List ℕ)). lookup (nat_eq j) ps) (paired_more ns more i row (written.each (length ns) ∙ if_true _ (Some row) _ (eq_true (length ns) (length ns) refl))
    ∙ ap (λ (ps : List (ℕ × List ℕ)). ps ++ (i, row) ∷ []) (written_beside ns rows more row le written))
    ∙ ⊎_elim
    (λ (e : i ≡ j). subst (λ (n : ℕ). lookup (nat_eq n) (paired ns rows ++ (i, row) ∷ []) ≡ cond (nat_eq i n) (Some row) (lookup (nat_eq n) (paired ns rows))) e
    (lookup_after (nat_eq i) (paired ns rows) ((i, row) ∷ []) (found i ns rows le ∙ if_false _ _ None (no_place (nat_lt (position_or_len (nat_eq i) ns) (length ns)) (position_or_len (nat_eq i) ns) none))
    ∙ if_true (nat_eq i i) (Some row) None (eq_true i i refl) ∙ sym (if_true (nat_eq i i) (Some row) (lookup (nat_eq i) (paired ns rows)) (eq_true i i refl))))
    (λ (ne : i ≢ j). lookup_before (nat_eq j) (paired ns rows) ((i, row) ∷ []) (if_false (nat_eq j i) (Some row) None (eq_false j i (λ e. ne (sym e)))) ∙ sym (if_false (nat_eq i j) (Some row) _ (eq_false i j ne)))
    (cases_eq i j)

-- ---- what is read
module _ (base i : ℕ) (ns : List ℕ) (rows : List (List ℕ)) (added : SizedRows) where
  abbrev here : EditedTable
  here = record { changed = paired ns rows; added = added }

  pub read_changed : i < base → length ns ≤ length rows → (p : ℕ) → position (nat_eq i) ns ≡ Some p → p < length rows → Some (get_or rows p []) ≡ edited_at base here i
  read_changed lt le p is within =
      let place = place_is (nat_lt (position_or_len (nat_eq i) ns) (length ns)) (position_or_len (nat_eq i) ns) p is in
      sym (slice_get-get_or rows p [] within) ∙ sym (found i ns rows le ∙ if_true _ (slice_get rows (position_or_len (nat_eq i) ns)) None place.0 ∙ ap (λ k. slice_get rows k) place.1)
      ∙ sym (if_true (nat_lt i base) (lookup (nat_eq i) (paired ns rows)) (slice_get added.rows (i - base)) (let b : nat_lt i base ≡ true = grind (arith, lt) in b))

  pub read_none : i < base → length ns ≤ length rows → position (nat_eq i) ns ≡ None → None ≡ edited_at base here i
  read_none lt le none = sym (found i ns rows le ∙ if_false _ (slice_get rows (position_or_len (nat_eq i) ns)) None (no_place (nat_lt (position_or_len (nat_eq i) ns) (length ns)) (position_or_len (nat_eq i) ns) none))
      ∙ sym (if_true (nat_lt i base) (lookup (nat_eq i) (paired ns rows)) (slice_get added.rows (i - base)) (let b : nat_lt i base ≡ true = grind (arith, lt) in b))

  from_base : base ≤ i → slice_get added.rows (i - base) ≡ edited_at base here i
  from_base ge = sym (if_false (nat_lt i base) (lookup (nat_eq i) (paired ns rows)) (slice_get added.rows (i - base)) (let b : nat_lt i base ≡ false = grind (arith, ge) in b))

  pub read_added : base ≤ i → i - base < length added.rows → Some (get_or added.rows (i - base) []) ≡ edited_at base here i
  read_added ge lt = sym (slice_get-get_or added.rows (i - base) [] lt) ∙ from_base ge

  pub read_past : base ≤ i → length added.rows ≤ i - base → None ≡ edited_at base here i
  read_past ge le = sym (slice_get_past added.rows (i - base) le) ∙ from_base ge
