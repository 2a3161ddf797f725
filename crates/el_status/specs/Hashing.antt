-- The text that a status is being hashed of.
use Rattle.std.specs.Prelude.{◌≡◌, ℕ, Bool, true, false, List, [], ◌∷◌}
use Rattle.sha2.specs.Hashers.{Holds256}
use Rattle.el_status.specs.declared.hashing.StatusHash.{StatusHash}

-- the text isn't empty
abbrev pub is_any : List ℕ → Bool
is_any [] = false
is_any (b ∷ bs) = true

-- this text was hashed so far
pub record HasHashed (hash : StatusHash) (text : List ℕ) : Type 0 where
  pub holds : Holds256 hash.hasher text
  pub any : hash.any ≡ is_any text
