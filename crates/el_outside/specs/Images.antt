-- The model of a disk: what is known of each file on it, and what a crash may leave of them.
use Rattle.std.specs.Prelude.{◌≡◌, ◌⊎◌, ◌≤◌, ◌<◌, ◌+◌, ◌==◌, ◌&&◌, nat_le, nat_lt, ℕ, min, max, Bool, false, List, [], ◌∷◌, ◌++◌, length, get_or, if◌then◌else◌}
use Rattle.std.specs.List.{list_any}
use Rattle.el_outside.specs.Disk.{Image}

-- What is known of a file: its bytes at the last sync that succeeded; the ranges that were written since, by
-- writes that failed too, each as its first place and the place after its last; the least and the greatest
-- size that it had since.
pub record Kept : Type 0 where
  pub bytes : List ℕ
  pub ranges : List (ℕ × ℕ)
  pub least : ℕ
  pub greatest : ℕ

-- one of the ranges has the place
abbrev pub is_written : List (ℕ × ℕ) → ℕ → Bool
is_written ranges i = list_any (λ (range : ℕ × ℕ). nat_le range.0 i && nat_lt i range.1) ranges

-- What a crash may leave of a file: any size from the least to the greatest, any bytes in the ranges and past
-- the end that it had at the sync, and elsewhere the bytes that it had then.
pub record IsImage (kept : Kept) (c : List ℕ) : Type 0 where
  pub no_shorter : kept.least ≤ length c
  pub no_longer : length c ≤ kept.greatest
  pub same : (i : ℕ) → i < length c → i < length kept.bytes → is_written kept.ranges i ≡ false
      → get_or c i 0 ≡ get_or kept.bytes i 0

-- what is known of a file after a sync that succeeded; so of one that was never written
abbrev pub synced : List ℕ → Kept
synced bytes = record { bytes = bytes; ranges = []; least = length bytes; greatest = length bytes }

-- after a write of n bytes, whether it failed or not
abbrev pub written : ℕ → ℕ → Kept → Kept
written at n kept = record kept {
  ranges = kept.ranges ++ (at, at + n) ∷ [];
  greatest = max kept.greatest (at + n);
}

-- after a cut to n bytes, whether it failed or not
abbrev pub shortened : ℕ → Kept → Kept
shortened n kept = record kept { least = min kept.least n }

-- what stands by file number, with another thing for this file
abbrev pub at_file : {T : Type 0} → (ℕ → T) → ℕ → T → ℕ → T
at_file all file here f = if f == file then here else all f

-- An image of all files has an image of each. Files fail independently: nothing ties one to another.
abbrev pub LeavesImages : (ℕ → Kept) → Image → Type 0
LeavesImages kept c = (f : ℕ) → IsImage (kept f) (c f)

-- What a crash since the moment t might have left, where this is known of the files now, and that was known
-- at the moments before, the last first. The first moment is 0.
abbrev pub LeftSince : (ℕ → Kept) → List (ℕ → Kept) → ℕ → Image → Type 0
LeftSince now [] t c = LeavesImages now c
LeftSince now (before ∷ past) t c = LeavesImages now c ⊎ ((t ≤ length past) × LeftSince before past t c)
