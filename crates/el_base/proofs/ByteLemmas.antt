-- Parts of bytes are bytes, and the numbers that they encode are bounded.
use Rattle.std.proofs.Common.{ℕ, ◌+◌, ◌<◌, ◌^◌, List, ◌∷◌, take, drop, suc, arith, inl, inr, ◌≡◌, ◌++◌, sym, ap, ◌∙◌}
use Rattle.std.specs.Int.{w16, w32, w64, from_le_bytes, to_le_bytes}
use Rattle.std.proofs.lemmas.Bool.{cases_lt}
use Rattle.std.proofs.lemmas.List.{length-take, get_or-drop, get_or-take, get_or_past}
use Rattle.std.proofs.lemmas.Nat.{from_le_bytes-to_le_bytes_4}
use Rattle.el_base.specs.Left.{AreBytes}

-- the bytes after the first
pub tail_bytes : (b : ℕ) (rest : List ℕ) → AreBytes (b ∷ rest) → AreBytes rest
tail_bytes b rest all = λ i. all (suc i)

-- the first n bytes
pub front_bytes : (n : ℕ) (bytes : List ℕ) → AreBytes bytes → AreBytes (take n bytes)
front_bytes n bytes all i =
    elim (cases_lt i n) [
      | inl lt ↦ rw (get_or-take n bytes i 0 lt) (all i)
      | inr le ↦ rw (get_or_past (take n bytes) i 0 (omega (arith, length-take n bytes))) (omega arith)
    ]

-- the bytes after the first n
pub bytes_after : (n : ℕ) (bytes : List ℕ) → AreBytes bytes → AreBytes (drop n bytes)
bytes_after n bytes all i = rw get_or-drop (all (n + i))

pub below_2 : (bytes : List ℕ) → AreBytes bytes → from_le_bytes w16 bytes < 2 ^ 16
below_2 bytes all = omega (arith, all 0, all 1)

pub below_4 : (bytes : List ℕ) → AreBytes bytes → from_le_bytes w32 bytes < 2 ^ 32
below_4 bytes all = omega (arith, all 0, all 1, all 2, all 3)

pub below_8 : (bytes : List ℕ) → AreBytes bytes → from_le_bytes w64 bytes < 2 ^ 64
below_8 bytes all = omega (arith, all 0, all 1, all 2, all 3, all 4, all 5, all 6, all 7)

-- a number in four bytes, and what stands after it
pub number_again : (m n : ℕ) (x y : List ℕ) → m < 2 ^ 32 → n < 2 ^ 32 → to_le_bytes w32 m ++ x ≡ to_le_bytes w32 n ++ y → (m ≡ n) × (x ≡ y)
number_again m n x y p q e = (
  sym (from_le_bytes-to_le_bytes_4 m p) ∙ ap (λ (t : List ℕ). from_le_bytes w32 (take 4 t)) e ∙ from_le_bytes-to_le_bytes_4 n q,
  ap (λ (t : List ℕ). drop 4 t) e,
)
