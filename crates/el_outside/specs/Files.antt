-- The bytes of files, which may only gain more after those that they have.
use Rattle.std.specs.Prelude.{◌≡◌, ℕ, List, ◌++◌}

-- the new bytes begin with the old ones
abbrev pub Grows : List ℕ → List ℕ → Type 0
Grows old new = (more : List ℕ) × (new ≡ old ++ more)

-- the new bytes of each file begin with its old ones
abbrev pub AllGrow : (ℕ → List ℕ) → (ℕ → List ℕ) → Type 0
AllGrow old new = (file : ℕ) → Grows (old file) (new file)
