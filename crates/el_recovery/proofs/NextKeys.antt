-- The first bytes of what is left of a body.
use Rattle.std.proofs.Common.{◌≡◌, ◌≤◌, ◌<◌, ◌+◌, ◌++◌, ◌∷◌, [], ℕ, List, length, take, drop, min, get_or, refl, ap, sym, ◌∙◌, arith, append_assoc, length-drop}
use Rattle.std.specs.Int.{w64, to_le_bytes, from_le_bytes}
use Rattle.std.proofs.lemmas.List.{get_or-take, get_or-drop, take_all, take-append-drop, length-take-le}
use Rattle.std.proofs.lemmas.Nat.{le_bytes_8}
use Rattle.el_row_formats.specs.declared.table.Table.{Table}
use Rattle.el_row_formats.specs.Tables.{key, number_of}
use Rattle.el_redo.specs.RedoBody.{change_bytes}
use Rattle.el_redo.proofs.BodyLemmas.{eight_are}
use Rattle.el_pages.specs.declared.layout.Layout.{Layout}
use Rattle.el_pages.specs.Layouts.{size_in}
use Rattle.el_recovery.specs.within.Checking.{IsNextRow}
use Rattle.el_recovery.proofs.Fronts.{eight_of}

-- its first byte
pub front_there : (front rest : List ℕ) (left : ℕ) → length rest ≡ left → 0 < left → take (min 9 left) front ≡ take (min 9 left) rest
    → (after : List ℕ) × (rest ≡ get_or front 0 0 ∷ after)
front_there front [] left long some read = absurd (omega (arith, long, some))
front_there front (x ∷ after) left long some read =
    (after, ap (λ n. n ∷ after) (sym (get_or-take (min 9 left) (x ∷ after) 0 0 (omega (arith, some))) ∙ ap (λ (b : List ℕ). get_or b 0 0) (sym read) ∙ get_or-take (min 9 left) front 0 0 (omega (arith, some))))

change_is : (t : Table) (i : ℕ) (row after : List ℕ) → number_of t ∷ (to_le_bytes w64 i ++ (row ++ after)) ≡ change_bytes (key t i, row) ++ after
unfolding change_bytes
change_is t i row after = ap (λ (b : List ℕ). number_of t ∷ b) (sym (append_assoc (to_le_bytes w64 i) row after))

-- a whole change
pub row_there : (l : Layout) (t : Table) (front rest : List ℕ) (left : ℕ) → length rest ≡ left → take (min 9 left) front ≡ take (min 9 left) rest → length front ≡ 9
    → (n : ℕ) → n ≡ from_le_bytes w64 (eight_of front) → ((i : ℕ) → get_or front i 0 < 256) → number_of t ≡ get_or front 0 0 → 9 + size_in l t ≤ left → IsNextRow l rest t n
row_there l t front rest left long read nine n is small first enough =
    let row = take (size_in l t) (drop 9 rest) in
    let after = drop (size_in l t) (drop 9 rest) in
    let least : min 9 left ≡ 9 = omega (arith, enough) in
    let front_is : front ≡ take 9 rest = sym (take_all 9 front (omega (arith, nine))) ∙ ap (λ k. take k front) (sym least) ∙ read ∙ ap (λ k. take k rest) least in
    let bytes : to_le_bytes w64 n ≡ eight_of front = le_bytes_8 (eight_of front) n refl (λ i. few front nine small i) is in
    let head : take 9 rest ≡ number_of t ∷ to_le_bytes w64 n = sym front_is ∙ whole front nine ∙ ap (λ k. k ∷ eight_of front) (sym first) ∙ ap (λ (b : List ℕ). number_of t ∷ b) (sym bytes) in
    record {
      row = row;
      after = after;
      is = sym (take-append-drop 9 rest)
          ∙ ap (λ (b : List ℕ). b ++ drop 9 rest) head
          ∙ ap (λ (b : List ℕ). number_of t ∷ (to_le_bytes w64 n ++ b)) (sym (take-append-drop (size_in l t) (drop 9 rest)))
          ∙ change_is t n row after;
      sized = length-take-le (size_in l t) (drop 9 rest) (omega (arith, length-drop 9 rest, long, enough));
      small = omega (arith, is, small 1, small 2, small 3, small 4, small 5, small 6, small 7, small 8);
    }
  where
    eight : (l : List ℕ) → length l ≡ 9 → eight_of l ≡ drop 1 l
    eight [] e = absurd (omega (arith, e))
    eight (x ∷ tail) e = eight_are tail (omega (arith, e))

    whole : (l : List ℕ) → length l ≡ 9 → l ≡ get_or l 0 0 ∷ eight_of l
    whole [] e = absurd (omega (arith, e))
    whole (x ∷ tail) e = ap (λ (r : List ℕ). x ∷ r) (sym (eight_are tail (omega (arith, e))))

    few : (front : List ℕ) → length front ≡ 9 → ((i : ℕ) → get_or front i 0 < 256) → (i : ℕ) → get_or (eight_of front) i 0 < 256
    few front nine small i = omega (arith, small (1 + i), ap (λ (b : List ℕ). get_or b i 0) (eight front nine), get_or-drop 1 front i 0)
