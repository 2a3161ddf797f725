-- A Merkle tree over many hashes by groups of 2,048 of them: 11 levels above the hashes stands one hash of
-- each group.
use Rattle.std.specs.Prelude.{ℕ, ◌+◌, ◌-◌, ◌*◌, ◌/◌, List, length, map, take, drop, slice_index_or}
use Rattle.std.specs.List.{range_with_len}
use Rattle.el_base.specs.declared.hash.Hash32.{Hash32}
use Rattle.el_merkle.specs.Merkle.{row, root, no_hash}
use Rattle.el_levels.specs.declared.groups.TheConstants.{GROUP}

-- a group of hashes by its number: they are cut after each 2,048, and the last group may have fewer
unfoldable pub group : List Hash32 → ℕ → List Hash32
group list g = take GROUP (drop (GROUP * g) list)

-- the hash that stands so many levels above hashes, which are at most 2 to the power of the levels
unfoldable pub lifted : ℕ → List Hash32 → Hash32
lifted levels list = slice_index_or (row levels list) 0 no_hash

-- how many groups so many hashes have
abbrev pub group_count : ℕ → ℕ
group_count n = (n + (GROUP - 1)) / GROUP

-- the hashes that stand so many levels above the groups, one of each
unfoldable pub lifted_groups : ℕ → List Hash32 → List Hash32
lifted_groups levels list =
    map (λ g. lifted levels (group list g)) (range_with_len 0 (group_count (length list)))

-- the Merkle roots of the groups that are full
unfoldable pub group_roots : List Hash32 → List Hash32
group_roots list = map (λ g. root (group list g)) (range_with_len 0 (length list / GROUP))
