-- Writes over a file that a crash left.
use Rattle.std.proofs.Common.{◌≡◌, ◌≢◌, ◌⊎◌, inl, inr, ⊎_elim, ℕ, ◌+◌, ◌<◌, ◌≤◌, max, List, [], ◌∷◌, ◌++◌, length, get_or, take, drop, refl, sym, append-nil, length-append, ◌∙◌, ap, subst, arith, append_assoc}
use Rattle.std.proofs.lemmas.Bool.{cases_lt, cases_eq}
use Rattle.std.proofs.lemmas.Bool.Decides.{nat_tests}
use Rattle.std.proofs.lemmas.List.{ext_get_or, take_at, drop_at, drop-drop, length-take-le, take-append-drop}
use Rattle.el_outside.specs.Disk.{over, Torn}
use Rattle.el_outside.proofs.Bytes.{length-over, over_before, over_in, over_after}
use Rattle.el_redone.specs.Redone.{Write, overlaid, WritesFit, into, NoneCovers, ends, Covers}

pub fits_more : (ws : List Write) (m n : ℕ) → m ≤ n → WritesFit ws m → WritesFit ws n
fits_more [] m n le fits = tt
fits_more (w ∷ ws) m n le fits = (omega (arith, fits.0), fits_more ws (max m (w.at + length w.bytes)) (max n (w.at + length w.bytes)) (omega arith) fits.1)

pub fits_same : (ws : List Write) (m n : ℕ) → m ≡ n → WritesFit ws m → WritesFit ws n
fits_same ws m n is fits = subst (WritesFit ws) is fits

-- a write of the same bytes at the same place brings together what differed there alone
over_same : (w : Write) (b d : List ℕ) (k : ℕ) → w.at ≤ length b → w.at ≤ length d → ((k < w.at) ⊎ (w.at + length w.bytes ≤ k) → get_or b k 0 ≡ get_or d k 0) → get_or (over b w.at w.bytes) k 0 ≡ get_or (over d w.at w.bytes) k 0
over_same w b d k fb fd same = ⊎_elim
    (λ before. over_before b w.at w.bytes k fb before ∙ same (inl before) ∙ sym (over_before d w.at w.bytes k fd before))
    (λ ge. ⊎_elim
    (λ lt. over_in b w.at w.bytes k fb ge lt ∙ sym (over_in d w.at w.bytes k fd ge lt))
    (λ after. over_after b w.at w.bytes k fb after ∙ same (inr after) ∙ sym (over_after d w.at w.bytes k fd after))
    (cases_lt k (w.at + length w.bytes)))
    (cases_lt k w.at)

-- two files that differ only where writes go are the same afterwards
pub same_overlaid : (ws : List Write) (b d : List ℕ) → WritesFit ws (length b) → WritesFit ws (length d) → max (length b) (ends ws) ≡ max (length d) (ends ws)
    → ((k : ℕ) → NoneCovers ws k → get_or b k 0 ≡ get_or d k 0) → overlaid ws b ≡ overlaid ws d
same_overlaid [] b d fits_b fits_d size same = ext_get_or 0 b d (omega (arith, size)) (λ k lt. same k tt)
same_overlaid (w ∷ ws) b d fits_b fits_d size same =
    let long_b = length-over b w.at w.bytes fits_b.0 in
    let long_d = length-over d w.at w.bytes fits_d.0 in
    same_overlaid ws (over b w.at w.bytes) (over d w.at w.bytes)
    (fits_same ws _ _ (sym long_b) fits_b.1)
    (fits_same ws _ _ (sym long_d) fits_d.1)
    (omega (arith, long_b, long_d, size))
    (λ k out. over_same w b d k fits_b.0 fits_d.0 (λ there. same k (there, out)))

-- a torn write of places that they cover changes nothing of what they make of the file
pub torn_overlaid : (ws : List Write) (at n : ℕ) (d c : List ℕ) → Covers ws at n → WritesFit ws (length d) → Torn at n d c → overlaid ws c ≡ overlaid ws d
torn_overlaid ws at n d c covers fits torn =
    same_overlaid ws c d (fits_more ws (length d) (length c) torn.no_shorter fits) fits
    (omega (arith, torn.no_shorter, torn.no_longer, covers.within))
    (λ k out. torn.same k (covers.each k out))

-- what the writes leave where they don't go, and the size
pub overlaid_untouched : (ws : List Write) (b : List ℕ) (k : ℕ) → WritesFit ws (length b) → NoneCovers ws k → get_or (overlaid ws b) k 0 ≡ get_or b k 0
overlaid_untouched [] b k fits out = refl
overlaid_untouched (w ∷ ws) b k fits out =
    overlaid_untouched ws (over b w.at w.bytes) k (fits_same ws _ _ (sym (length-over b w.at w.bytes fits.0)) fits.1) out.1
    ∙ ⊎_elim (λ before. over_before b w.at w.bytes k fits.0 before) (λ after. over_after b w.at w.bytes k fits.0 after) out.0

pub length-overlaid : (ws : List Write) (b : List ℕ) → WritesFit ws (length b) → length (overlaid ws b) ≡ max (length b) (ends ws)
length-overlaid [] b fits = omega arith
length-overlaid (w ∷ ws) b fits =
    let long = length-over b w.at w.bytes fits.0 in
    omega (arith, long, length-overlaid ws (over b w.at w.bytes) (fits_same ws _ _ (sym long) fits.1))

pub fits_overlaid : (ws : List Write) (b : List ℕ) → WritesFit ws (length b) → WritesFit ws (length (overlaid ws b))
fits_overlaid ws b fits = fits_more ws (length b) (length (overlaid ws b)) (omega (arith, length-overlaid ws b fits)) fits

-- making them again changes nothing
pub overlaid_twice : (ws : List Write) (b : List ℕ) → WritesFit ws (length b) → overlaid ws (overlaid ws b) ≡ overlaid ws b
overlaid_twice ws b fits =
    same_overlaid ws (overlaid ws b) b (fits_overlaid ws b fits) fits (omega (arith, length-overlaid ws b fits)) (λ k out. overlaid_untouched ws b k fits out)

-- ---- those into one file

pub into_here : (w : Write) (ws : List Write) (f : ℕ) → w.file ≡ f → into f (w ∷ ws) ≡ w ∷ into f ws
into_here w ws f is = grind (arith, nat_tests)

pub into_other : (w : Write) (ws : List Write) (f : ℕ) → w.file ≢ f → into f (w ∷ ws) ≡ into f ws
into_other w ws f ne = grind (arith, nat_tests)

pub into_append : (xs ys : List Write) (f : ℕ) → into f (xs ++ ys) ≡ into f xs ++ into f ys
into_append [] ys f = refl
into_append (x ∷ xs) ys f = ⊎_elim
    (λ (is : x.file ≡ f). into_here x (xs ++ ys) f is ∙ ap (λ (l : List Write). x ∷ l) (into_append xs ys f) ∙ ap (λ (l : List Write). l ++ into f ys) (sym (into_here x xs f is)))
    (λ ne. into_other x (xs ++ ys) f ne ∙ into_append xs ys f ∙ ap (λ (l : List Write). l ++ into f ys) (sym (into_other x xs f ne)))
    (cases_eq x.file f)

pub overlaid_append : (xs ys : List Write) (b : List ℕ) → overlaid (xs ++ ys) b ≡ overlaid ys (overlaid xs b)
overlaid_append [] ys b = refl
overlaid_append (x ∷ xs) ys b = overlaid_append xs ys (over b x.at x.bytes)

-- ---- covered places

pub covers_none : (ws : List Write) (at : ℕ) → at ≤ ends ws → Covers ws at 0
covers_none ws at le = record { each = λ k out. ⊎_elim (λ lt. inl lt) (λ ge. inr (omega (arith, ge))) (cases_lt k at); within = omega (arith, le) }

untouched_in : (done : List Write) (w : Write) (rest : List Write) (k : ℕ) → NoneCovers (done ++ w ∷ rest) k → (k < w.at) ⊎ (w.at + length w.bytes ≤ k)
untouched_in [] w rest k out = out.0
untouched_in (x ∷ done) w rest k out = untouched_in done w rest k out.1

ends_in : (done : List Write) (w : Write) (rest : List Write) → w.at + length w.bytes ≤ ends (done ++ w ∷ rest)
ends_in [] w rest = omega arith
ends_in (x ∷ done) w rest = omega (arith, ends_in done w rest)

-- by one of them
pub covers_one : (ws done : List Write) (w : Write) (rest : List Write) → ws ≡ done ++ w ∷ rest → Covers ws w.at (length w.bytes)
covers_one ws done w rest is = record {
  each = λ k out. untouched_in done w rest k (subst (λ (l : List Write). NoneCovers l k) is out);
  within = subst (λ (l : List Write). w.at + length w.bytes ≤ ends l) (sym is) (ends_in done w rest);
}

-- by some and then others
pub covers_more : (ws : List Write) (at n m : ℕ) → Covers ws at n → Covers ws (at + n) m → Covers ws at (n + m)
covers_more ws at n m first second = record {
  each = λ k out. ⊎_elim (λ lt. inl lt) (λ ge. ⊎_elim (λ lt. absurd (omega (arith, ge, lt))) (λ past. inr (omega (arith, past))) (second.each k out)) (first.each k out);
  within = omega (arith, second.within);
}

-- ---- one write after the other

pub over_none : (b : List ℕ) (at : ℕ) → over b at [] ≡ b
over_none b at = ap (λ (x : List ℕ). x ++ drop (at + 0) b) (append-nil (take at b)) ∙ ap (λ n. take at b ++ drop n b) (let e : at + 0 ≡ at = omega arith in e) ∙ take-append-drop at b

pub over_more : (old : List ℕ) (at : ℕ) (x y : List ℕ) → at ≤ length old → over (over old at x) (at + length x) y ≡ over old at (x ++ y)
over_more old at x y le =
    let front = take at old ++ x in
    let back = drop (at + length x) old in
    let long : length front ≡ at + length x = length-append (take at old) x ∙ ap (λ n. n + length x) (length-take-le at old le) in
    let taken : take (at + length x) (front ++ back) ≡ front = take_at front back (at + length x) long in
    let left : drop (at + length x + length y) (front ++ back) ≡ drop (at + length (x ++ y)) old =
    sym (drop-drop (length y) (at + length x) (front ++ back))
    ∙ ap (λ (l : List ℕ). drop (length y) l) (drop_at front back (at + length x) long)
    ∙ drop-drop (length y) (at + length x) old
    ∙ ap (λ n. drop n old) (omega (arith, length-append x y)) in
    ap (λ (l : List ℕ). (l ++ y) ++ drop (at + length x + length y) (front ++ back)) taken
    ∙ ap (λ (l : List ℕ). (front ++ y) ++ l) left
    ∙ ap (λ (l : List ℕ). l ++ drop (at + length (x ++ y)) old) (append_assoc (take at old) x y)
