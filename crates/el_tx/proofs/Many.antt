-- Things read one after the other: those before a fault are lawful and their texts stand in front.
use Rattle.std.proofs.Common.{◌≡◌, ℕ, zero, suc, ◌+◌, ◌-◌, ◌<◌, List, [], ◌∷◌, ◌++◌, length, Result, Ok, Err, refl, sym, ap, subst, ◌∙◌, append_assoc, length-append, arith}
use Rattle.std.specs.List.{flat_map, AllByRecursion}
use Rattle.std.proofs.lemmas.List.{append-nil, flat_map_more}
use Rattle.std.proofs.lemmas.List.Concat.{flat_map-cons}
use Rattle.el_base.specs.Left.{Left, AreBytes}
use Rattle.el_tx.specs.declared.fault.TxFault.{TxFault}
use Rattle.el_tx.specs.FirstFault.{FaultAmong}
use Rattle.el_tx.specs.within.Reading.{many_at}
use Rattle.el_tx.proofs.Passed.{Passed, Took, Took-then, middle, Passed-front, Passed-back, none_passed, after, Sound, done, step}

-- ---- what is read

pub many_sound : {A : Type 0} (next : List A → Left → Result (A × Left) TxFault) (Are : List A → Type 0) (text : A → List ℕ) (Next : List A → ℕ → List ℕ → TxFault → Type 0)
    → ((before : List A) (left : Left) → Are before → AreBytes left.rest → Sound (next before left) (λ x. Took left (text x.0) x.1 × Are (before ++ x.0 ∷ [])) (Next before left.place left.rest))
    → (start : Left) (count : ℕ) (before : List A) (n : ℕ) (left : Left) → length before + n ≡ count → Took start (flat_map text before) left → Are before
    → Sound (many_at next before n left) (λ xs. Took start (flat_map text xs.0) xs.1 × (length xs.0 ≡ count) × Are xs.0) (FaultAmong Are text Next count start.place start.rest)
unfolding many_at
many_sound next Are text Next each start count before zero left size took are = done (before, left) (took, omega arith, are)
many_sound next Are text Next each start count before (suc n) left size took are =
    step (next before left) _ (each before left are took.fits)
    (λ x p.
    let longer : length (before ++ x.0 ∷ []) + n ≡ count = simp length-append (omega arith) in
    let whole : Took start (flat_map text (before ++ x.0 ∷ [])) x.1 = subst (λ (t : List ℕ). Took start t x.1) (flat_map_more text [] before x.0) (Took-then start (flat_map text before) left (text x.0) x.1 took p.0) in
    many_sound next Are text Next each start count (before ++ x.0 ∷ []) n x.1 longer whole p.1)
    (λ e s. record { before = before; fewer = omega arith; lawful = are; next = after (flat_map text before) (Next before) start left e took.passed s })

-- ---- what is encoded

-- each fits after those before it
abbrev pub Chain : {A : Type 0} → (List A → A → Type 0) → List A → List A → Type 0
Chain Fit before [] = Unit {0}
Chain Fit before (x ∷ xs) = Fit before x × Chain Fit (before ++ x ∷ []) xs

pub Chain-all : {A : Type 0} (P : A → Type 0) (before xs : List A) → AllByRecursion P xs → Chain (λ _ x. P x) before xs
Chain-all P before [] all = tt
Chain-all P before (x ∷ xs) all = (all.0, Chain-all P (before ++ x ∷ []) xs all.1)

pub many_passes : {A : Type 0} (next : List A → Left → Result (A × Left) TxFault) (Fit : List A → A → Type 0) (text : A → List ℕ)
    → ((before : List A) (x : A) (left after : Left) → Fit before x → Passed left (text x) after → next before left ≡ Ok (x, after))
    → (before more : List A) (k : ℕ) (left after : Left) → Chain Fit before more → Passed left (flat_map text more) after
    → many_at next before (length more + k) left ≡ many_at next (before ++ more) k after
unfolding many_at
many_passes next Fit text each before [] k left after chain p =
    let none : 0 + k ≡ k = omega arith in
    let same = none_passed left after p in
    rw (none, same, append-nil before) refl
many_passes {A = A} next Fit text each before (x ∷ xs) k left after chain p =
    let count : length (x ∷ xs) + k ≡ suc (length xs + k) = omega arith in
    let q : Passed left (text x ++ flat_map text xs) after = rw flat_map-cons at p in
    let mid = middle left (text x) (flat_map text xs) after in
    let first : next before left ≡ Ok (x, mid) = each before x left mid chain.0 (Passed-front left (text x) (flat_map text xs) after q) in
    let others = many_passes next Fit text each (before ++ x ∷ []) xs k mid after chain.1 (Passed-back left (text x) (flat_map text xs) after q) in
    let start : many_at next before (length (x ∷ xs) + k) left ≡ many_at next (before ++ x ∷ []) (length xs + k) mid = rw (count, first) refl in
    start ∙ others ∙ ap (λ (ys : List A). many_at next ys k after) (append_assoc before (x ∷ []) xs)

pub many_again : {A : Type 0} (next : List A → Left → Result (A × Left) TxFault) (Fit : List A → A → Type 0) (text : A → List ℕ)
    → ((before : List A) (x : A) (left after : Left) → Fit before x → Passed left (text x) after → next before left ≡ Ok (x, after))
    → (xs : List A) (left after : Left) → Chain Fit [] xs → Passed left (flat_map text xs) after → many_at next [] (length xs) left ≡ Ok (xs, after)
unfolding many_at
many_again next Fit text each xs left after chain p =
    let count : length xs + 0 ≡ length xs = omega arith in
    ap (λ n. many_at next [] n left) (sym count) ∙ many_passes next Fit text each [] xs 0 left after chain p

-- the next of fewer than n things is refused
pub many_refuses : {A : Type 0} (next : List A → Left → Result (A × Left) TxFault) (Fit : List A → A → Type 0) (text : A → List ℕ)
    → ((before : List A) (x : A) (left after : Left) → Fit before x → Passed left (text x) after → next before left ≡ Ok (x, after))
    → (xs : List A) (n : ℕ) (left after : Left) (f : TxFault) → length xs < n → Chain Fit [] xs → Passed left (flat_map text xs) after → next xs after ≡ Err f
    → many_at next [] n left ≡ Err f
unfolding many_at
many_refuses next Fit text each xs n left after f fewer chain p h =
    let count : n ≡ length xs + suc (n - (length xs + 1)) = omega arith in
    let there = many_passes next Fit text each [] xs (suc (n - (length xs + 1))) left after chain p in
    let last : many_at next xs (suc (n - (length xs + 1))) after ≡ Err f = rw h refl in
    ap (λ k. many_at next [] k left) count ∙ there ∙ last
