-- Script hashes, each once.
use Rattle.std.proofs.Common.{◌≡◌, ◌≢◌, true, false, List, [], ◌∷◌, ap, sym, ◌∙◌, true≢false}
use Rattle.std.proofs.lemmas.Slice.Eq.{bytes_eq-Decides}
use Rattle.std.specs.List.{AllByRecursion, IsDistinct}
use Rattle.el_base.specs.declared.hash.Hash32.{Hash32}
use Rattle.el_block.specs.Blocks.{AllDiffer}
use Rattle.el_chain.specs.Headers.{same_hash}

others_differ : (x : Hash32) (xs : List Hash32) → AllByRecursion (λ y. same_hash x y ≡ false) xs → AllByRecursion (λ y. x ≢ y) xs
others_differ x [] h = tt
others_differ x (y ∷ xs) h =
    ((λ e. true≢false (sym ((bytes_eq-Decides x.0 y.0).1 (ap (λ (z : Hash32). z.0) e)) ∙ h.0)), others_differ x xs h.1)

pub all_differ : (xs : List Hash32) → IsDistinct same_hash xs → AllDiffer xs
unfolding IsDistinct
all_differ [] h = tt
all_differ (x ∷ xs) h = (others_differ x xs h.0, all_differ xs h.1)
