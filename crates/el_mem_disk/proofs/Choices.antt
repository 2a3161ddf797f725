-- The numbers that choose an image of all files.
use Rattle.std.proofs.Common.{◌≡◌, ⊎_elim, ℕ, zero, suc, ◌+◌, ◌*◌, ◌-◌, ◌<◌, ◌≤◌, ◌%◌, nat_lt, ◌&&◌, not, Bool, true, false, List, [], ◌∷◌, ◌++◌, length, get_or, drop, replicate, if◌then◌else◌, refl, sym, ◌∙◌, ap, subst, arith, append_assoc, append-nil}
use Rattle.std.proofs.lemmas.Bool.{cases_eq, cases_lt}
use Rattle.std.proofs.lemmas.Bool.Decides.{nat_tests}
use Rattle.std.proofs.lemmas.Nat.{mod-mul-add}
use Rattle.std.proofs.lemmas.List.{length-append, length-replicate, get_or_append_left, drop_all}
use Rattle.std.proofs.lemmas.List.FromFn.{fill_by_all}
use lib.Seq.{drop-append-le}
use Rattle.el_outside.specs.Disk.{Image}
use Rattle.el_outside.specs.Images.{Kept, is_written, IsImage}
use Rattle.el_outside.proofs.Images.{is_synced}
use Rattle.el_mem_disk.specs.DiskFiles.{FileState, never_written, chosen, chosen_size, chosen_byte, numbers_before, crashed}
use Rattle.el_mem_disk.proofs.DiskFileLists.{none_chosen}

-- numbers that begin with how much longer the image is than the shortest, and go on with its bytes, choose it
module _ (kept : Kept) (c numbers : List ℕ) (image : IsImage kept c) (bytes : (i : ℕ) → get_or c i 0 < 256)
    (first : get_or numbers 0 0 ≡ length c - kept.least) (next : (i : ℕ) → i < length c → get_or numbers (1 + i) 0 ≡ get_or c i 0) where
  small_mod : (n m : ℕ) → n < m → n % m ≡ n
  small_mod n m lt = let same : n ≡ 0 * m + n = omega arith in ap (λ k. k % m) same ∙ mod-mul-add 0 m n lt

  right_size : chosen_size kept numbers ≡ length c
  right_size =
      let low = image.no_shorter in
      let high = image.no_longer in
      let h = small_mod (length c - kept.least) (kept.greatest - kept.least + 1) (omega arith) in
      let e = ap (λ k. k % (kept.greatest - kept.least + 1)) first in
      omega arith

  is_below : (k m : ℕ) → nat_lt k m ≡ true → k < m
  is_below k m h = ⊎_elim (λ lt. lt) (λ ge. absurd (grind (arith, nat_tests))) (cases_lt k m)

  by_test : (a w : Bool) (x y z : ℕ) → (a ≡ true → w ≡ false → x ≡ z) → y ≡ z → (if a && not w then x else y) ≡ z
  by_test true false x y z known any = known refl refl
  by_test true true x y z known any = any
  by_test false w x y z known any = any

  right_byte : (k : ℕ) → k < length c → get_or c k 0 ≡ chosen_byte kept numbers k
  right_byte k lt = sym (by_test (nat_lt k (length kept.bytes)) (is_written kept.ranges k) _ _ _
      (λ inside out. sym (image.same k lt (is_below k (length kept.bytes) inside) out))
      (ap (λ n. n % 256) (next k lt) ∙ small_mod (get_or c k 0) 256 (bytes k)))

  pub chosen_by : chosen kept numbers ≡ c
  chosen_by = sym (fill_by_all (chosen_byte kept numbers) c (chosen_size kept numbers) 0 (sym right_size) (λ k lt. right_byte k (omega (arith, right_size, lt))))

-- the numbers for one file, as many as it takes, and for the first files
abbrev code : Kept → List ℕ → List ℕ
code kept c = (length c - kept.least) ∷ (c ++ replicate (kept.greatest - length c) 0)

length_code : (kept : Kept) (c : List ℕ) → IsImage kept c → length (code kept c) ≡ 1 + kept.greatest
length_code kept c image = omega (arith, length-append c (replicate (kept.greatest - length c) 0), length-replicate {A = ℕ} (kept.greatest - length c) 0, image.no_longer)

code_next : (kept : Kept) (c rest : List ℕ) (i : ℕ) → i < length c → get_or (code kept c ++ rest) (1 + i) 0 ≡ get_or c i 0
code_next kept c rest i lt =
    let on : 1 + i ≡ suc i = omega arith in
    ap (λ n. get_or (code kept c ++ rest) n 0) on
    ∙ get_or_append_left (c ++ replicate (kept.greatest - length c) 0) rest 0 i (omega (arith, lt, length-append c (replicate (kept.greatest - length c) 0)))
    ∙ get_or_append_left c (replicate (kept.greatest - length c) 0) 0 i lt

abbrev numbers_for : (ℕ → FileState) → Image → ℕ → List ℕ
numbers_for files c zero = []
numbers_for files c (suc n) = numbers_for files c n ++ code (files n).kept (c n)

module _ (files : ℕ → FileState) (c : Image) (image : (f : ℕ) → IsImage (files f).kept (c f)) where
  length_numbers : (n : ℕ) → length (numbers_for files c n) ≡ numbers_before files n
  length_numbers zero = refl
  length_numbers (suc n) = omega (arith, length-append (numbers_for files c n) (code (files n).kept (c n)), length_numbers n, length_code (files n).kept (c n) (image n))

  before_rises : (f n : ℕ) → f ≤ n → numbers_before files f ≤ numbers_before files n
  before_rises f zero le = let is : f ≡ 0 = omega (arith, le) in subst (λ k. numbers_before files k ≤ 0) (sym is) (omega arith)
  before_rises f (suc n) le = ⊎_elim
      (λ (is : f ≡ suc n). subst (λ k. numbers_before files k ≤ numbers_before files (suc n)) (sym is) (omega arith))
      (λ ne. let h = before_rises f n (omega (arith, le, ne)) in omega (arith, h))
      (cases_eq f (suc n))

  at_code : (f n : ℕ) → f < n → (rest : List ℕ) × (drop (numbers_before files f) (numbers_for files c n) ≡ code (files f).kept (c f) ++ rest)
  at_code f zero lt = absurd (omega (arith, lt))
  at_code f (suc n) lt = ⊎_elim
      (λ (is : f ≡ n). (
        [],
        ap (λ k. drop (numbers_before files k) (numbers_for files c (suc n))) is
            ∙ drop-append-le (numbers_before files n) (numbers_for files c n) (code (files n).kept (c n)) (omega (arith, length_numbers n))
            ∙ ap (λ (xs : List ℕ). xs ++ code (files n).kept (c n)) (drop_all (numbers_before files n) (numbers_for files c n) (omega (arith, length_numbers n)))
            ∙ ap (λ k. code (files k).kept (c k)) (sym is) ∙ sym (append-nil (code (files f).kept (c f))),
      ))
      (λ ne.
      let before = at_code f n (omega (arith, lt, ne)) in (
        before.0 ++ code (files n).kept (c n),
        drop-append-le (numbers_before files f) (numbers_for files c n) (code (files n).kept (c n)) (omega (arith, length_numbers n, before_rises f n (omega (arith, lt))))
            ∙ ap (λ (xs : List ℕ). xs ++ code (files n).kept (c n)) before.1
            ∙ append_assoc (code (files f).kept (c f)) before.0 (code (files n).kept (c n)),
      ))
      (cases_eq f n)

  chosen_there : (bytes : (f i : ℕ) → get_or (c f) i 0 < 256) (n f : ℕ) → f < n → (crashed files (numbers_for files c n) f).bytes ≡ c f
  chosen_there bytes n f lt =
      let at = at_code f n lt in
      chosen_by (files f).kept (c f) (drop (numbers_before files f) (numbers_for files c n)) (image f) (bytes f)
      (ap (λ (xs : List ℕ). get_or xs 0 0) at.1)
      (λ i below. ap (λ (xs : List ℕ). get_or xs (1 + i) 0) at.1 ∙ code_next (files f).kept (c f) at.0 i below)

  chosen_never : (numbers : List ℕ) (f : ℕ) → files f ≡ never_written → (crashed files numbers f).bytes ≡ c f
  chosen_never numbers f never =
      ap (λ (file : FileState). chosen file.kept (drop (numbers_before files f) numbers)) never ∙ none_chosen (drop (numbers_before files f) numbers)
      ∙ sym (is_synced [] (c f) (subst (λ (file : FileState). IsImage file.kept (c f)) never (image f)))

-- some numbers choose each image
pub all_chosen : (files : ℕ → FileState) (n : ℕ) (c : Image) → ((f : ℕ) → n ≤ f → files f ≡ never_written) → ((f : ℕ) → IsImage (files f).kept (c f)) → ((f i : ℕ) → get_or (c f) i 0 < 256)
    → (numbers : List ℕ) × ((f : ℕ) → (crashed files numbers f).bytes ≡ c f)
all_chosen files n c never image bytes = (
  numbers_for files c n,
  λ f. ⊎_elim
      (λ lt. chosen_there files c image bytes n f lt)
      (λ ge. chosen_never files c image (numbers_for files c n) f (never f ge))
      (cases_lt f n),
)
