-- For which kept transactions a table of fees stands.
use Rattle.std.specs.Prelude.{◌≡◌, ℕ, ◌==◌, Bool, List, map, filter, sum_by}
use Rattle.el_mempool.specs.declared.held.KeptTx.{KeptTx}
use Rattle.el_mempool.specs.declared.fees.TheConstants.{FEE_EDGES}
use Rattle.el_mempool.specs.Fees.{edge_of}

-- the entry has that edge
abbrev pub is_at_edge : ℕ → KeptTx → Bool
is_at_edge e k = edge_of k.fee k.vsize == e

-- the sum of the sizes of the entries that have the edge
abbrev pub size_at : List KeptTx → ℕ → ℕ
size_at entries e = sum_by (λ (k : KeptTx). k.vsize) (filter (is_at_edge e) entries)

-- the sums of these entries, one for each edge
unfoldable pub sizes_of : List KeptTx → List ℕ
sizes_of entries = map (size_at entries) FEE_EDGES

-- the table has the sums of these entries
abbrev pub IsTableOf : List ℕ → List KeptTx → Type 0
IsTableOf sizes entries = sizes ≡ sizes_of entries
