-- What the calls of a disk do to its files, and to what a crash may leave of them.
use Rattle.std.specs.Prelude.{◌≡◌, ◌≢◌, ◌⊎◌, ◌<◌, ◌≤◌, ◌+◌, ℕ, min, max, List, ◌++◌, length, take, drop, get_or}

-- the bytes of each file, by its number; a file that was never written has none
abbrev pub Image : Type 0
Image = ℕ → List ℕ

-- bytes written over what is there, and past the end
abbrev pub over : List ℕ → ℕ → List ℕ → List ℕ
over old at bytes = take at old ++ bytes ++ drop (at + length bytes) old

-- What a write of n bytes at the place makes of a file that a crash leaves, whether it failed or not: any
-- bytes in its range, the same bytes elsewhere, and any size from the old one to the write's end.
pub record Torn (at n : ℕ) (old new : List ℕ) : Type 0 where
  pub same : (k : ℕ) → (k < at) ⊎ (at + n ≤ k) → get_or new k 0 ≡ get_or old k 0
  pub no_shorter : length old ≤ length new
  pub no_longer : length new ≤ max (length old) (at + n)

-- What a cut to n bytes makes of a file that a crash leaves, whether it failed or not: a front of it, of any
-- size from n to the old one.
pub record Cut (n : ℕ) (old new : List ℕ) : Type 0 where
  pub front : new ≡ take (length new) old
  pub no_shorter : min n (length old) ≤ length new

-- one file of an image takes a step, the others stay
pub record OnFile (file : ℕ) (step : List ℕ → List ℕ → Type 0) (old new : Image) : Type 0 where
  pub here : step (old file) (new file)
  pub others : (f : ℕ) → f ≢ file → new f ≡ old f

-- each image that may be left now is one that might be left before, after a step
abbrev pub Follows : (Image → Image → Type 0) → (Image → Type 0) → (Image → Type 0) → Type 0
Follows step old new = (c : Image) → new c → (d : Image) × old d × step d c

-- each image that may be left now might be left before
abbrev pub NothingNew : (Image → Type 0) → (Image → Type 0) → Type 0
NothingNew old new = (c : Image) → new c → old c

-- in each image that may be left the file is what a read gives
abbrev pub OnDisk : ℕ → Image → (Image → Type 0) → Type 0
OnDisk file seen may_leave = (c : Image) → may_leave c → c file ≡ seen file
