-- Bytes of a list, one by one.
use Rattle.std.proofs.Common.{◌≡◌, ◌≤◌, ◌+◌, ℕ, List, [], ◌∷◌, length, get_or, take, drop, refl, ap, sym, ◌∙◌, arith, length-drop}
use Rattle.std.proofs.lemmas.List.{get_or-drop}

four_first : (xs : List ℕ) → 4 ≤ length xs → get_or xs 0 0 ∷ get_or xs 1 0 ∷ get_or xs 2 0 ∷ get_or xs 3 0 ∷ [] ≡ take 4 xs
four_first [] le = absurd (omega (arith, le))
four_first (a ∷ []) le = absurd (omega (arith, le))
four_first (a ∷ b ∷ []) le = absurd (omega (arith, le))
four_first (a ∷ b ∷ c ∷ []) le = absurd (omega (arith, le))
four_first (a ∷ b ∷ c ∷ d ∷ xs) le = refl

-- the byte at a place
cell : (xs : List ℕ) (at k : ℕ) → get_or xs (at + k) 0 ≡ get_or (drop at xs) k 0
cell xs at k = sym (get_or-drop at xs k 0)

cell_here : (xs : List ℕ) (at : ℕ) → get_or xs at 0 ≡ get_or (drop at xs) 0 0
cell_here xs at = ap (λ n. get_or xs n 0) (let e : at ≡ at + 0 = omega arith in e) ∙ cell xs at 0

pub four_cells : (xs : List ℕ) (at : ℕ) → at + 4 ≤ length xs
    → get_or xs at 0 ∷ get_or xs (at + 1) 0 ∷ get_or xs (at + 2) 0 ∷ get_or xs (at + 3) 0 ∷ [] ≡ take 4 (drop at xs)
four_cells xs at le =
    let ys = drop at xs in
    let e0 = cell_here xs at in
    let e1 = cell xs at 1 in
    let e2 = cell xs at 2 in
    let e3 = cell xs at 3 in
    let cells : get_or xs at 0 ∷ get_or xs (at + 1) 0 ∷ get_or xs (at + 2) 0 ∷ get_or xs (at + 3) 0 ∷ []
    ≡ get_or ys 0 0 ∷ get_or ys 1 0 ∷ get_or ys 2 0 ∷ get_or ys 3 0 ∷ [] = cc (e0, e1, e2, e3) in
    cells ∙ four_first ys (omega (arith, le, length-drop at xs))

-- eight are four and four
eight_first : (xs : List ℕ) → 8 ≤ length xs
    → get_or xs 0 0 ∷ get_or xs 1 0 ∷ get_or xs 2 0 ∷ get_or xs 3 0 ∷ get_or xs 4 0 ∷ get_or xs 5 0 ∷ get_or xs 6 0 ∷ get_or xs 7 0 ∷ [] ≡ take 8 xs
eight_first [] le = absurd (omega (arith, le))
eight_first (a ∷ []) le = absurd (omega (arith, le))
eight_first (a ∷ b ∷ []) le = absurd (omega (arith, le))
eight_first (a ∷ b ∷ c ∷ []) le = absurd (omega (arith, le))
eight_first (a ∷ b ∷ c ∷ d ∷ xs) le = ap (λ (l : List ℕ). a ∷ b ∷ c ∷ d ∷ l) (four_first xs (omega (arith, le)))

pub eight_cells : (xs : List ℕ) (at : ℕ) → at + 8 ≤ length xs
    → get_or xs at 0 ∷ get_or xs (at + 1) 0 ∷ get_or xs (at + 2) 0 ∷ get_or xs (at + 3) 0 ∷ get_or xs (at + 4) 0 ∷ get_or xs (at + 5) 0 ∷ get_or xs (at + 6) 0 ∷ get_or xs (at + 7) 0 ∷ []
    ≡ take 8 (drop at xs)
eight_cells xs at le =
    let ys = drop at xs in
    let e0 = cell_here xs at in
    let e1 = cell xs at 1 in
    let e2 = cell xs at 2 in
    let e3 = cell xs at 3 in
    let e4 = cell xs at 4 in
    let e5 = cell xs at 5 in
    let e6 = cell xs at 6 in
    let e7 = cell xs at 7 in
    let cells : get_or xs at 0 ∷ get_or xs (at + 1) 0 ∷ get_or xs (at + 2) 0 ∷ get_or xs (at + 3) 0 ∷ get_or xs (at + 4) 0 ∷ get_or xs (at + 5) 0 ∷ get_or xs (at + 6) 0 ∷ get_or xs (at + 7) 0 ∷ []
    ≡ get_or ys 0 0 ∷ get_or ys 1 0 ∷ get_or ys 2 0 ∷ get_or ys 3 0 ∷ get_or ys 4 0 ∷ get_or ys 5 0 ∷ get_or ys 6 0 ∷ get_or ys 7 0 ∷ [] = cc (e0, e1, e2, e3, e4, e5, e6, e7) in
    cells ∙ eight_first ys (omega (arith, le, length-drop at xs))
