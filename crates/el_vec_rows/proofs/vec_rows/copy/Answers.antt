use Rattle.std.proofs.Common.{◌≡◌, ◌<◌, ℕ, List, [], ◌∷◌, length, get_or, refl, arith, ◌∙◌}
use Rattle.std.proofs.lemmas.List.{get_or_default}
use Rattle.std.proofs.lemmas.List.FromFn.{fill_by_all}
use Rattle.el_rows.specs.SizedRows.{SizedRows}
use Rattle.el_vec_rows.specs.within.InMemory.{no_list}
use Rattle.el_vec_rows.proofs.vec_rows.copy.Goals as goal

read : (kept : List SizedRows) → length kept ≡ 8 → (k : ℕ) (copied list : SizedRows) → k < 8 → copied ≡ get_or kept k list → copied ≡ get_or kept k no_list
read kept all k copied list lt is = is ∙ get_or_default kept k list no_list (omega (arith, lt, all))

-- what is read at each of eight places is all
eight : (kept : List SizedRows) (a b c d e f g h : SizedRows) → length kept ≡ 8
    → a ≡ get_or kept 0 no_list → b ≡ get_or kept 1 no_list → c ≡ get_or kept 2 no_list → d ≡ get_or kept 3 no_list → e ≡ get_or kept 4 no_list → f ≡ get_or kept 5 no_list → g ≡ get_or kept 6 no_list → h ≡ get_or kept 7 no_list
    → a ∷ b ∷ c ∷ d ∷ e ∷ f ∷ g ∷ h ∷ [] ≡ kept
eight kept a b c d e f g h told a_is b_is c_is d_is e_is f_is g_is h_is = let all = fill_by_all (λ (k : ℕ). get_or kept k no_list) kept 8 no_list told (λ k lt. refl) in cc

pub returns : goal.returns
returns c =
    let kept = c.args.kept.now in
    let told = c.type_inv.kept in
    eight kept _ _ _ _ _ _ _ _ told
    (read kept told 0 _ _ (omega arith) c.in_ok-copy.ensures)
    (read kept told 1 _ _ (omega arith) c.in_ok-copy-2.ensures)
    (read kept told 2 _ _ (omega arith) c.in_ok-copy-3.ensures)
    (read kept told 3 _ _ (omega arith) c.in_ok-copy-4.ensures)
    (read kept told 4 _ _ (omega arith) c.in_ok-copy-5.ensures)
    (read kept told 5 _ _ (omega arith) c.in_ok-copy-6.ensures)
    (read kept told 6 _ _ (omega arith) c.in_ok-copy-7.ensures)
    (read kept told 7 _ _ (omega arith) c.in_ok-copy-8.ensures)
