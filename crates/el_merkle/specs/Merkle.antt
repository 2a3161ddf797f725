-- Bitcoin's Merkle tree over hashes, and the branches of the Electrum protocol 1.4.
use Rattle.std.specs.Prelude.{ℕ, zero, suc, ◌+◌, ◌-◌, ◌/◌, ◌%◌, ◌==◌, nat_lt, if◌then◌else◌, List, [], ◌∷◌, ◌++◌, length, replicate, slice_index_or}
use Rattle.el_base.specs.Hashing.{sha256d}
use Rattle.el_base.specs.declared.hash.Hash32.{Hash32}

-- Bitcoin's block format: two hashes are joined by hashing their 64 bytes, the left one first.
unfoldable pub joined : Hash32 → Hash32 → Hash32
joined left right = record { 0 = sha256d (left.0 ++ right.0) }

-- Bitcoin's block format: neighbours are joined, and an odd last hash is joined with itself.
unfoldable pub pairs : List Hash32 → List Hash32
pairs [] = []
pairs (odd ∷ []) = joined odd odd ∷ []
pairs (left ∷ right ∷ rest) = joined left right ∷ pairs rest

-- the row that is n levels above the list
unfoldable pub row : ℕ → List Hash32 → List Hash32
row zero list = list
row (suc n) list = row n (pairs list)

-- half of a number, rounded up
abbrev pub half_up : ℕ → ℕ
half_up n = n - n / 2

-- how often a number is halved, rounded up, until it is 1 or the limit is reached
unfoldable pub halvings : ℕ → ℕ → ℕ
halvings zero n = 0
halvings (suc limit) n = if nat_lt n 2 then 0 else suc (halvings limit (half_up n))

-- how often a number is halved, rounded up, until it is 1: no number needs more halvings than itself
unfoldable pub levels : ℕ → ℕ
levels n = halvings n n

-- stands where there is no hash
unfoldable pub no_hash : Hash32
no_hash = record { 0 = replicate 32 0 }

-- Bitcoin's block format: the hash that is left when the list is joined in pairs, and these again, until one
-- is left.
unfoldable pub root : List Hash32 → Hash32
root list = slice_index_or (row (levels (length list)) list) 0 no_hash

-- the place that a place is paired with
abbrev pub neighbour : ℕ → ℕ
neighbour pos = if pos % 2 == 0 then pos + 1 else pos - 1

-- what the hash at the place is joined with: its neighbour, or itself where it has none
unfoldable pub partner : List Hash32 → ℕ → Hash32
partner list pos = slice_index_or list (neighbour pos) (slice_index_or list pos no_hash)

-- the partners on the way up from the place, through n levels
unfoldable pub branch_through : ℕ → List Hash32 → ℕ → List Hash32
branch_through zero list pos = []
branch_through (suc n) list pos = partner list pos ∷ branch_through n (pairs list) (pos / 2)

-- Electrum protocol 1.4, `merkle` of blockchain.transaction.get_merkle: the partners from the leaf up to the
-- root, deepest pairing first.
unfoldable pub branch_of : List Hash32 → ℕ → List Hash32
branch_of list pos = branch_through (levels (length list)) list pos

-- Electrum protocol 1.4: what a wallet computes. A hash at an even place is the left one of its pair.
unfoldable pub climb : Hash32 → ℕ → List Hash32 → Hash32
climb hash pos [] = hash
climb hash pos (next ∷ rest) =
    climb (if pos % 2 == 0 then joined hash next else joined next hash) (pos / 2) rest
