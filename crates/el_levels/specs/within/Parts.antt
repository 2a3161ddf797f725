-- The groups that a proof reads.
use Rattle.std.specs.Prelude.{◌≡◌, ℕ, ◌+◌, ◌/◌, ◌%◌, ◌==◌, if◌then◌else◌, List, take}
use Rattle.el_base.specs.declared.hash.Hash32.{Hash32}
use Rattle.el_merkle.specs.Merkle.{root}
use Rattle.el_levels.specs.declared.groups.TheConstants.{GROUP}
use Rattle.el_levels.specs.Groups.{group, lifted, lifted_groups}
use Rattle.el_levels.specs.Kept.{group_levels}

-- the hash above the last of the groups of the first n hashes
abbrev pub last_lifted : ℕ → List Hash32 → Hash32
last_lifted n hashes = lifted (group_levels n) (group (take n hashes) (n / GROUP))

-- how many hashes the last group has among n, where it isn't full and isn't the one that was asked
abbrev pub last_rows : ℕ → ℕ → ℕ
last_rows n asked = if asked == n / GROUP then 0 else n % GROUP

-- the hash is the root of the group with that number
abbrev pub IsRootAt : List Hash32 → ℕ → Hash32 → Type 0
IsRootAt hashes number hash = hash ≡ root (group hashes number)

-- the hashes are those above the groups of the hashes of heights 0 to `upto`
abbrev pub IsAboveList : List Hash32 → ℕ → List Hash32 → Type 0
IsAboveList hashes upto list = list ≡ lifted_groups (group_levels (upto + 1)) (take (upto + 1) hashes)
