-- Lists that aren't of exactly two.
use Rattle.std.proofs.Common.{◌≡◌, List, [], ◌∷◌, length, None, refl}
use Rattle.serde_json.specs.View.{items_view}
use Rattle.serde_json.specs.declared.value.Value.{Value}
use Rattle.el_json.specs.Parameters.{pair_of}

pub no_pair : (vs : List Value) → (length vs ≡ 2 → ⊥) → None ≡ pair_of (items_view vs)
no_pair [] h = refl
no_pair (x ∷ []) h = refl
no_pair (x ∷ y ∷ []) h = absurd (h refl)
no_pair (x ∷ y ∷ z ∷ vs) h = refl
