-- Block files in which nothing is made ahead.
use Rattle.std.specs.Prelude.{◌≡◌, ℕ, List, [], ◌∷◌, ◌++◌, refl}
use Rattle.el_outside.specs.declared.archive.Archive as block_files

-- no file of such an archive has padding
abbrev pub IsUnpadded : {A : Type 0} → block_files.Ghosts A → Type 0
IsUnpadded {A} of_files = (archive : A) (file : ℕ) → of_files.padding archive file ≡ []

-- where there are neither bytes nor padding, there are no bytes
pub none_written : (bytes padding : List ℕ) → bytes ++ padding ≡ [] → bytes ≡ []
none_written [] padding none = refl
none_written (b ∷ bytes) padding none = absurd (let bad = none in cc)
