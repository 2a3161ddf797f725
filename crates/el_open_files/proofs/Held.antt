-- Files that are open, by number.
use Rattle.std.proofs.Common.{◌≡◌, ℕ, zero, suc, List, [], ◌∷◌, ◌++◌, Option, Some, None, IfSome, refl, subst}
use Rattle.el_open_files.specs.OpenFiles.{opened, IsOpen, Held}

module _ (tells : Type 0) {D I : Type 0} (is_file : I → ℕ → Type 0) (is_named : D → ℕ → Type 0) where
  kept : (a b : D) (f : ℕ) (o : Option I) → (tells → is_named a f → is_named b f)
      → IfSome o (λ it. IsOpen tells is_file is_named a f it) → IfSome o (λ it. IsOpen tells is_file is_named b f it)
  kept a b f None names held = tt
  kept a b f (Some it) names held = record { file = held.file; named = λ told. names told (held.named told) }

  -- no name was lost
  pub held_kept : (a b : D) (places : List (Option I)) → (tells → (f : ℕ) → is_named a f → is_named b f)
      → Held tells is_file is_named a places → Held tells is_file is_named b places
  held_kept a b places names held f = kept a b f (opened places f) (λ told. names told f) (held f)

  -- the one that is open
  pub open_at : (a : D) (places : List (Option I)) (f : ℕ) (it : I) → opened places f ≡ Some it
      → Held tells is_file is_named a places → IsOpen tells is_file is_named a f it
  open_at a places f it is held = subst (λ o. IfSome o (λ it. IsOpen tells is_file is_named a f it)) is (held f)

  -- none is open
  pub held_none : (a : D) (places : List (Option I)) → ((f : ℕ) → opened places f ≡ None) → Held tells is_file is_named a places
  held_none a places none f = rw (none f) tt

-- one place more, with none open
pub shut_more : {I : Type 0} (places : List (Option I)) → ((f : ℕ) → opened places f ≡ None)
    → (f : ℕ) → opened (places ++ None ∷ []) f ≡ None
shut_more [] none zero = refl
shut_more [] none (suc f) = refl
shut_more (place ∷ places) none zero = none zero
shut_more (place ∷ places) none (suc f) = shut_more places (λ g. none (suc g)) f
