-- Bytes written over others.
use Rattle.std.proofs.Common.{◌≡◌, ⊎_elim, ℕ, ◌+◌, ◌-◌, ◌<◌, ◌≤◌, max, List, ◌++◌, length, get_or, take, drop, refl, ◌∙◌, ap, arith, length-append, length-drop}
use Rattle.std.proofs.lemmas.List.{length-take-le, get_or-take, get_or-drop, get_or_append_left, get_or-append_right}
use Rattle.el_outside.specs.Disk.{over, Torn}

pub length-over : (old : List ℕ) (at : ℕ) (bytes : List ℕ) → at ≤ length old → length (over old at bytes) ≡ max (length old) (at + length bytes)
length-over old at bytes le = omega (arith, length-append (take at old) bytes, length-append (take at old ++ bytes) (drop (at + length bytes) old), length-take-le at old le, length-drop (at + length bytes) old)

-- before the range, in it and after it
pub over_before : (old : List ℕ) (at : ℕ) (bytes : List ℕ) (k : ℕ) → at ≤ length old → k < at → get_or (over old at bytes) k 0 ≡ get_or old k 0
over_before old at bytes k le lt =
    get_or_append_left (take at old ++ bytes) (drop (at + length bytes) old) 0 k (omega (arith, length-append (take at old) bytes, length-take-le at old le))
    ∙ get_or_append_left (take at old) bytes 0 k (omega (arith, length-take-le at old le))
    ∙ get_or-take at old k 0 lt

pub over_in : (old : List ℕ) (at : ℕ) (bytes : List ℕ) (k : ℕ) → at ≤ length old → at ≤ k → k < at + length bytes → get_or (over old at bytes) k 0 ≡ get_or bytes (k - at) 0
over_in old at bytes k le ge lt =
    get_or_append_left (take at old ++ bytes) (drop (at + length bytes) old) 0 k (omega (arith, length-append (take at old) bytes, length-take-le at old le))
    ∙ get_or-append_right (take at old) bytes at k 0 (length-take-le at old le) ge

pub over_after : (old : List ℕ) (at : ℕ) (bytes : List ℕ) (k : ℕ) → at ≤ length old → at + length bytes ≤ k → get_or (over old at bytes) k 0 ≡ get_or old k 0
over_after old at bytes k le ge =
    get_or-append_right (take at old ++ bytes) (drop (at + length bytes) old) (at + length bytes) k 0 (omega (arith, length-append (take at old) bytes, length-take-le at old le)) ge
    ∙ get_or-drop (at + length bytes) old (k - (at + length bytes)) 0
    ∙ ap (λ n. get_or old n 0) (omega arith)

-- a write leaves, among others, what it wrote
pub torn_over : (old : List ℕ) (at : ℕ) (bytes : List ℕ) → at ≤ length old → Torn at (length bytes) old (over old at bytes)
torn_over old at bytes le = record {
  same = λ k where_is. ⊎_elim (λ lt. over_before old at bytes k le lt) (λ ge. over_after old at bytes k le ge) where_is;
  no_shorter = omega (arith, length-over old at bytes le);
  no_longer = omega (arith, length-over old at bytes le);
}

-- and what was there
pub torn_not : (at n : ℕ) (old : List ℕ) → Torn at n old old
torn_not at n old = record { same = λ k where_is. refl; no_shorter = omega arith; no_longer = omega arith }
