-- CompactSize, Bitcoin's variable-length number, of which the shortest encoding alone is lawful.
use Rattle.std.specs.Prelude.{◌≡◌, ◌⊎◌, ℕ, ◌<◌, ◌≤◌, ◌^◌, List, [], ◌∷◌, ◌++◌, length, ⊤, nat_lt, if◌then◌else◌}
use Rattle.std.specs.Int.{w16, w32, w64, to_le_bytes}
use Rattle.el_base.specs.declared.compact.CompactFault.{CompactFault}
use Rattle.el_base.specs.declared.compact.CompactFault.TheVariants as fault

-- The bytes encode the number, by cases on the first byte: the number itself, or the width of that after it.
pub data EncodesCompact (bytes : List ℕ) (n : ℕ) : Type 0 where
  one : n < 253 → bytes ≡ n ∷ [] → EncodesCompact bytes n
  two : 253 ≤ n → n < 2 ^ 16 → bytes ≡ 253 ∷ to_le_bytes w16 n → EncodesCompact bytes n
  four : 2 ^ 16 ≤ n → n < 2 ^ 32 → bytes ≡ 254 ∷ to_le_bytes w32 n → EncodesCompact bytes n
  eight : 2 ^ 32 ≤ n → n < 2 ^ 64 → bytes ≡ 255 ∷ to_le_bytes w64 n → EncodesCompact bytes n

-- the one encoding of a number below 2 ^ 64
unfoldable pub compact : ℕ → List ℕ
compact n =
    if nat_lt n 253 then n ∷ []
    else (if nat_lt n (2 ^ 16) then 253 ∷ to_le_bytes w16 n
    else (if nat_lt n (2 ^ 32) then 254 ∷ to_le_bytes w32 n
    else 255 ∷ to_le_bytes w64 n))

-- The bytes end within a CompactSize: there are none, or fewer stand after the first than it announces.
abbrev pub EndsInCompact : List ℕ → Type 0
EndsInCompact [] = ⊤
EndsInCompact (first ∷ rest) =
    ((first ≡ 253) × (length rest < 2)) ⊎ ((first ≡ 254) × (length rest < 4))
    ⊎ ((first ≡ 255) × (length rest < 8))

-- The bytes begin with a number in more bytes than its shortest encoding has.
pub data BeginsLong (bytes : List ℕ) : Type 0 where
  two : (n : ℕ) (rest : List ℕ) → n < 253 → bytes ≡ 253 ∷ to_le_bytes w16 n ++ rest → BeginsLong bytes
  four : (n : ℕ) (rest : List ℕ) → n < 2 ^ 16 → bytes ≡ 254 ∷ to_le_bytes w32 n ++ rest → BeginsLong bytes
  eight : (n : ℕ) (rest : List ℕ) → n < 2 ^ 32 → bytes ≡ 255 ∷ to_le_bytes w64 n ++ rest → BeginsLong bytes

-- why no number is read from bytes that begin at the place
abbrev pub FirstCompactFault : ℕ → List ℕ → CompactFault → Type 0
FirstCompactFault place bytes (fault.Short at_place) = EndsInCompact bytes × (at_place ≡ place)
FirstCompactFault place bytes (fault.LongSpelling at_place) = BeginsLong bytes × (at_place ≡ place)
