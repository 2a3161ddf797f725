use Rattle.std.proofs.Common.{◌≡◌, List, [], ◌∷◌, ℕ, refl, sym, ◌∙◌}
use Rattle.el_outside.specs.Files.{Grows}
use Rattle.el_loop.proofs.laws.no_block_is_invented.Goals as goal

was_empty : (old new : List ℕ) → Grows old new → new ≡ [] → old ≡ []
was_empty [] new grows empty = refl
was_empty (b ∷ bs) new grows empty = absurd (let e = sym grows.1 ∙ empty in cc)

pub returns : goal.returns
returns g c = record {
  none_had = λ first node ledger files counts traffic stop h told file empty.
      was_empty _ _ (h.grown told file) empty;
}
