-- The bytes of commits, as they are written.
use Rattle.std.proofs.Common.{◌≡◌, ◌<◌, ◌+◌, ◌^◌, ℕ, suc, List, [], ◌∷◌, ◌++◌, Some, length, get_or, take, map, refl, ap, sym, ◌∙◌, arith, append_assoc, append-nil, length-append}
use Rattle.std.specs.Prelude.{slice_get}
use Rattle.std.specs.List.{AllByRecursion}
use Rattle.std.specs.Map.{keys_of}
use Rattle.std.specs.Int.{w64, to_le_bytes}
use Rattle.std.proofs.lemmas.Cmp.{eq_by_cmp_equiv}
use Rattle.std.proofs.lemmas.List.{take_more}
use Rattle.std.proofs.lemmas.Map.Entries.{lookup_from_place}
use Rattle.std.proofs.lemmas.Map.Keys.{IsDistinct-from_sorted}
use Rattle.std.proofs.lemmas.Option.{slice_get_within, get_or_from_slice_get}
use Rattle.el_row_formats.specs.declared.table.Table.{Table}
use Rattle.el_row_formats.specs.declared.table.RowKey.{RowKey}
use Rattle.el_row_formats.specs.Tables.{number_of, size_of, row_cmp}
use Rattle.el_row_formats.proofs.Keys.{keys_total, few_rows}
use Rattle.el_rows.specs.Changes.{Changes, IsMadeFrom, count_at, changed_at}
use Rattle.el_redo.specs.RedoBody.{all_tables, numbers_bytes, change_bytes, changes_bytes}

-- ---- numbers

pub numbers_more : (xs : List ℕ) (n : ℕ) → numbers_bytes (xs ++ n ∷ []) ≡ numbers_bytes xs ++ to_le_bytes w64 n
numbers_more [] n = append-nil (to_le_bytes w64 n)
numbers_more (x ∷ xs) n = ap (λ (l : List ℕ). to_le_bytes w64 x ++ l) (numbers_more xs n) ∙ sym (append_assoc (to_le_bytes w64 x) (numbers_bytes xs) (to_le_bytes w64 n))

-- ---- changed rows

-- a whole row, whose number fits its bytes
pub record Fits (e : RowKey × List ℕ) : Type 0 where
  pub sized : length e.1 ≡ size_of e.0.table
  pub small : e.0.row < 2 ^ 64

abbrev pub AllFit : Changes → Type 0
AllFit changes = AllByRecursion Fits changes

pub length-change : (e : RowKey × List ℕ) → length (change_bytes e) ≡ 9 + length e.1
unfolding change_bytes
length-change e = omega (arith, length-append (to_le_bytes w64 e.0.row) e.1)

pub change_is : (k : RowKey) (row : List ℕ) → number_of k.table ∷ (to_le_bytes w64 k.row ++ row) ≡ change_bytes (k, row)
unfolding change_bytes
change_is k row = refl

pub changes_append : (xs ys : Changes) → changes_bytes (xs ++ ys) ≡ changes_bytes xs ++ changes_bytes ys
changes_append [] ys = refl
changes_append (x ∷ xs) ys = ap (λ (l : List ℕ). change_bytes x ++ l) (changes_append xs ys) ∙ sym (append_assoc (change_bytes x) (changes_bytes xs) (changes_bytes ys))

pub changes_more : (xs : Changes) (e : RowKey × List ℕ) → changes_bytes (xs ++ e ∷ []) ≡ changes_bytes xs ++ change_bytes e
changes_more xs e = changes_append xs (e ∷ []) ∙ ap (λ (l : List ℕ). changes_bytes xs ++ l) (append-nil (change_bytes e))

-- ---- what was made fits

fits_from : (xs : Changes) → ((k : ℕ) (e : RowKey × List ℕ) → slice_get xs k ≡ Some e → Fits e) → AllFit xs
fits_from [] each = tt
fits_from (x ∷ xs) each = (each 0 x refl, fits_from xs (λ k e is. each (suc k) e is))

pub made_fits : (base : Table → ℕ) (counts : List ℕ) (changes : Changes) → IsMadeFrom base counts changes → AllFit changes
made_fits base counts changes made = fits_from changes (λ k e is.
    let found : changed_at changes e.0.table e.0.row ≡ Some e.1 =
    lookup_from_place (eq_by_cmp_equiv keys_total) changes k e.0 e.1 (IsDistinct-from_sorted row_cmp (keys_of changes) made.rising) is in
    record {
      sized = made.sized e.0.table e.0.row e.1 found;
      small = let few : e.0.row < count_at counts e.0.table = made.within e.0.table e.0.row (rw found refl) in omega (arith, few, made.limited e.0.table, few_rows e.0.table);
    })

-- ---- bytes in pieces

pub four_are : (xs : List ℕ) → length xs ≡ 4 → get_or xs 0 0 ∷ get_or xs 1 0 ∷ get_or xs 2 0 ∷ get_or xs 3 0 ∷ [] ≡ xs
four_are [] is = absurd (omega (arith, is))
four_are (a ∷ []) is = absurd (omega (arith, is))
four_are (a ∷ b ∷ []) is = absurd (omega (arith, is))
four_are (a ∷ b ∷ c ∷ []) is = absurd (omega (arith, is))
four_are (a ∷ b ∷ c ∷ d ∷ []) is = refl
four_are (a ∷ b ∷ c ∷ d ∷ e ∷ xs) is = absurd (omega (arith, is))

pub eight_are : (xs : List ℕ) → length xs ≡ 8
    → get_or xs 0 0 ∷ get_or xs 1 0 ∷ get_or xs 2 0 ∷ get_or xs 3 0 ∷ get_or xs 4 0 ∷ get_or xs 5 0 ∷ get_or xs 6 0 ∷ get_or xs 7 0 ∷ [] ≡ xs
eight_are [] is = absurd (omega (arith, is))
eight_are (a ∷ []) is = absurd (omega (arith, is))
eight_are (a ∷ b ∷ []) is = absurd (omega (arith, is))
eight_are (a ∷ b ∷ c ∷ []) is = absurd (omega (arith, is))
eight_are (a ∷ b ∷ c ∷ d ∷ []) is = absurd (omega (arith, is))
eight_are (a ∷ b ∷ c ∷ d ∷ e ∷ []) is = absurd (omega (arith, is))
eight_are (a ∷ b ∷ c ∷ d ∷ e ∷ f ∷ []) is = absurd (omega (arith, is))
eight_are (a ∷ b ∷ c ∷ d ∷ e ∷ f ∷ g ∷ []) is = absurd (omega (arith, is))
eight_are (a ∷ b ∷ c ∷ d ∷ e ∷ f ∷ g ∷ h ∷ []) is = refl
eight_are (a ∷ b ∷ c ∷ d ∷ e ∷ f ∷ g ∷ h ∷ i ∷ xs) is = absurd (omega (arith, is))

-- the counts that were read are those of all tables
pub counts_of : (ns : List ℕ) → length ns ≡ 8 → map (count_at ns) all_tables ≡ ns
counts_of [] is = absurd (omega (arith, is))
counts_of (a ∷ []) is = absurd (omega (arith, is))
counts_of (a ∷ b ∷ []) is = absurd (omega (arith, is))
counts_of (a ∷ b ∷ c ∷ []) is = absurd (omega (arith, is))
counts_of (a ∷ b ∷ c ∷ d ∷ []) is = absurd (omega (arith, is))
counts_of (a ∷ b ∷ c ∷ d ∷ e ∷ []) is = absurd (omega (arith, is))
counts_of (a ∷ b ∷ c ∷ d ∷ e ∷ f ∷ []) is = absurd (omega (arith, is))
counts_of (a ∷ b ∷ c ∷ d ∷ e ∷ f ∷ g ∷ []) is = absurd (omega (arith, is))
counts_of (a ∷ b ∷ c ∷ d ∷ e ∷ f ∷ g ∷ h ∷ []) is = refl
counts_of (a ∷ b ∷ c ∷ d ∷ e ∷ f ∷ g ∷ h ∷ i ∷ ns) is = absurd (omega (arith, is))

-- ---- what is written

pub number_put : (start old new bytes ns : List ℕ) (i : ℕ) → i < length ns → bytes ≡ to_le_bytes w64 (get_or ns i 0) → new ≡ old ++ bytes → old ≡ start ++ numbers_bytes (take i ns)
    → new ≡ start ++ numbers_bytes (take (i + 1) ns)
number_put start old new bytes ns i lt is put was =
    put ∙ ap (λ (l : List ℕ). l ++ bytes) was ∙ append_assoc start (numbers_bytes (take i ns)) bytes
    ∙ ap (λ (l : List ℕ). start ++ (numbers_bytes (take i ns) ++ l)) is
    ∙ ap (λ (l : List ℕ). start ++ l) (sym (numbers_more (take i ns) (get_or ns i 0)) ∙ ap numbers_bytes (sym (take_more ns i 0 lt)))

pub change_put : (k : RowKey) (row start two three number : List ℕ) → number ≡ to_le_bytes w64 k.row → two ≡ start ++ number_of k.table ∷ number → three ≡ two ++ row
    → three ≡ start ++ change_bytes (k, row)
change_put k row start two three number is second third =
    third ∙ ap (λ (l : List ℕ). l ++ row) (second ∙ ap (λ (l : List ℕ). start ++ number_of k.table ∷ l) is)
    ∙ append_assoc start (number_of k.table ∷ to_le_bytes w64 k.row) row ∙ ap (λ (l : List ℕ). start ++ l) (change_is k row)

pub changes_put : (old new meta : List ℕ) (changes : Changes) (i : ℕ) (e : RowKey × List ℕ) → slice_get changes i ≡ Some e → new ≡ old ++ change_bytes e → old ≡ meta ++ changes_bytes (take i changes)
    → new ≡ meta ++ changes_bytes (take (i + 1) changes)
changes_put old new meta changes i e is put was =
    put ∙ ap (λ (l : List ℕ). l ++ change_bytes e) was ∙ append_assoc meta (changes_bytes (take i changes)) (change_bytes e)
    ∙ ap (λ (l : List ℕ). meta ++ l) (sym (changes_more (take i changes) e) ∙ ap changes_bytes (sym (take_more changes i e (slice_get_within changes i e is) ∙ ap (λ (x : RowKey × List ℕ). take i changes ++ x ∷ []) (get_or_from_slice_get changes i e e is))))
