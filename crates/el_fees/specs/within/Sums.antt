-- What changes put to the sum of an edge, and take from it.
use Rattle.std.specs.Prelude.{◌≡◌, ℕ, ◌+◌, ◌%◌, ◌^◌, ◌<◌, ◌==◌, List, slice_index, not, ◌&&◌, if◌then◌else◌}
use Rattle.el_mempool.specs.declared.fees.FeeChange.{FeeChange}
use Rattle.el_mempool.specs.declared.fees.TheConstants.{FEE_EDGE_COUNT}
use Rattle.el_mempool.specs.Fees.{edge_of}

-- the size, where it was added at the edge
abbrev pub added_at : ℕ → FeeChange → ℕ
added_at e c = if c.added && (edge_of c.fee c.vsize == e) then c.vsize else 0

-- the size, where it was removed at the edge
abbrev pub removed_at : ℕ → FeeChange → ℕ
removed_at e c = if not c.added && (edge_of c.fee c.vsize == e) then c.vsize else 0

-- the new sum is the old one with what was added and without what was removed, modulo 2^64
abbrev pub IsBalanced : ℕ → ℕ → ℕ → ℕ → Type 0
IsBalanced old new added removed = (new + removed) % 2 ^ 64 ≡ (old + added) % 2 ^ 64

-- 64 bits count each of the sums
abbrev pub AreSums : List ℕ → Type 0
AreSums sizes = (k : ℕ) → k < FEE_EDGE_COUNT → slice_index sizes k < 2 ^ 64
