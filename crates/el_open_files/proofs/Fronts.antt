-- The first bytes of a buffer, read in parts.
use Rattle.std.proofs.Common.{[], append-nil, ◌≡◌, ◌⊎◌, inl, inr, min, ◌∙◌, ◌≤◌, ◌+◌, ◌-◌, ℕ, zero, suc, List, ◌++◌, length, take, drop, refl, ap, sym, arith, length-append}
use Rattle.std.proofs.lemmas.List.{take-append-le, drop-append-le, length-drop, length-take-le, drop-drop}
use Rattle.std.proofs.lemmas.List.{take_all}
use Rattle.std.proofs.Math.Seq.{take-add, take-append-add}
use Rattle.el_outside.specs.Files.{Grows}
use Rattle.el_open_files.specs.Calls.{IsFront}

pub front_none : (place : ℕ) (buf file : List ℕ) → IsFront place 0 buf file
front_none place buf file = record { there = omega arith; bytes = refl }

-- the file has grown meanwhile
pub front_grown : (place n : ℕ) (buf old new : List ℕ) → IsFront place n buf old → Grows old new → IsFront place n buf new
front_grown place zero buf old new front grows = front_none place buf new
front_grown place (suc n) buf old new front (more, is) = rw is (record {
  there = omega (arith, front.there, length-append old more);
  bytes = front.bytes ∙ sym (ap (take (suc n)) (drop-append-le place old more (omega (arith, front.there)))
      ∙ take-append-le (suc n) (drop place old) more (omega (arith, front.there, length-drop place old)));
})

-- what stands after the first n was written over
pub front_kept : (place n : ℕ) (buf xs old new : List ℕ) → n ≤ length buf → IsFront place n buf old → Grows old new
    → IsFront place n (take n buf ++ xs) new
front_kept place n buf xs old new le front grows = front_grown place n (take n buf ++ xs) old new (record {
  there = front.there;
  bytes = take-append-le n (take n buf) xs (omega (arith, length-take-le n buf le))
      ∙ take_all n (take n buf) (omega (arith, length-take-le n buf le)) ∙ front.bytes;
}) grows

-- by k bytes more
pub front_more : (place n k here : ℕ) (buf sub rest old new : List ℕ) → n ≤ length buf → k ≤ length sub → here ≡ place + n
    → IsFront place n buf old → Grows old new → IsFront here k sub new
    → IsFront place (n + k) (take n buf ++ (sub ++ rest)) new
front_more place n k here buf sub rest old new le within at front grows found =
    let more : IsFront (place + n) k sub new = rw (← at) found in
    let begun : IsFront place n buf new = front_grown place n buf old new front grows in record {
      there = omega (arith, begun.there, more.there);
      bytes = ap (λ m. take (m + k) (take n buf ++ (sub ++ rest))) (sym (length-take-le n buf le))
          ∙ take-append-add (take n buf) (sub ++ rest) k
          ∙ ap (λ xs. take n buf ++ xs) (take-append-le k sub rest within)
          ∙ ap (λ xs. xs ++ take k sub) begun.bytes
          ∙ ap (λ xs. take n (drop place new) ++ xs) (more.bytes ∙ ap (take k) (sym (drop-drop n place new)))
          ∙ sym (take-add n k (drop place new));
    }

-- how long what is left is
pub length_rest : (n : ℕ) (buf : List ℕ) → length (take (length buf - n) (drop n buf)) ≡ length buf - n
length_rest n buf = length-take-le (length buf - n) (drop n buf) (omega (arith, length-drop n buf))

-- all was filled, or the file ended
pub counted_all : (at n len size : ℕ) → n ≡ len → n ≤ size - at → n ≡ min len (size - at)
counted_all at n len size all there = omega (arith, all, there)

pub counted_end : (at done k len size place sub : ℕ) → k ≡ 0 → done ≤ len → done + k ≤ size - at → place ≡ at + done
    → sub ≡ len - done → (sub ≡ 0) ⊎ (size ≤ place) → done + k ≡ min len (size - at)
counted_end at done k len size place sub none within there here rest (inl full) = omega (arith, none, within, there, rest, full)
counted_end at done k len size place sub none within there here rest (inr end) = omega (arith, none, within, there, here, end)

-- nothing more is read only where the buffer is full or the file ends
pub none_more : (n len size at : ℕ) → n ≡ min len (size - at) → n ≡ 0 → (len ≡ 0) ⊎ (size ≤ at)
none_more n zero size at is none = inl refl
none_more n (suc len) size at is none = inr (omega (arith, is, none))

-- what one read gave
pub front_of : (place n len : ℕ) (buf file : List ℕ) → n ≡ min len (length file - place) → take n buf ≡ take n (drop place file)
    → IsFront place n buf file
front_of place n len buf file count is = record { there = omega (arith, count); bytes = is }

-- a file that didn't change
pub same_grows : (old new : List ℕ) → new ≡ old → Grows old new
same_grows old new is = ([], is ∙ sym (append-nil old))
