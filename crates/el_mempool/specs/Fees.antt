-- The fee histogram of the unconfirmed transactions (Electrum Protocol 1.4, mempool.get_fee_histogram), and
-- what changes of their fees from one list of arrival to another.
use Rattle.std.specs.Prelude.{ℕ, ◌*◌, ◌^◌, ◌<◌, ◌==◌, nat_eq, nat_le, nat_lt, ◌&&◌, Bool, true, false, if◌then◌else◌, List, [], ◌∷◌, ◌++◌, map, filter, find, sum_by, unwrap_or}
use Rattle.std.specs.List.Sorted.{IsPermutation}
use Rattle.el_tx.specs.declared.types.Tx.{Tx}
use Rattle.el_tx.specs.Hashing.{vsize}
use Rattle.el_chain.specs.Chains.{Chain}
use Rattle.el_chain.specs.Headers.{same_hash}
use Rattle.el_mempool.specs.declared.held.KeptTx.{KeptTx}
use Rattle.el_mempool.specs.declared.fees.FeeChange.{FeeChange}
use Rattle.el_mempool.specs.declared.fees.TheConstants.{FEE_EDGES}
use Rattle.el_mempool.specs.Unconfirmed.{fee}

-- the first of these that times the size is at most the fee, and 0 where there is none
abbrev pub edge_among : List ℕ → ℕ → ℕ → ℕ
edge_among edges fee size = unwrap_or (find (λ e. nat_le (e * size) fee) edges) 0

-- the greatest edge that times the size is at most the fee: the edges fall
unfoldable pub edge_of : ℕ → ℕ → ℕ
edge_of fee size = edge_among FEE_EDGES fee size

-- the transaction has that edge, among the kept ones
abbrev pub has_edge : Chain → List Tx → ℕ → Tx → Bool
has_edge chain kept e t = edge_of (fee chain kept t) (vsize t) == e

-- an edge with the sum of the sizes of the kept ones that have it
abbrev pub edge_row : Chain → List Tx → ℕ → ℕ × ℕ
edge_row chain kept e = (e, sum_by vsize (filter (has_edge chain kept e) kept))

-- by falling edge, without those that no kept one has
unfoldable pub histogram : Chain → List Tx → List (ℕ × ℕ)
histogram chain kept = filter (λ (row : ℕ × ℕ). nat_lt 0 row.1) (map (edge_row chain kept) FEE_EDGES)

-- the transaction came, or left
abbrev pub fee_change : Bool → KeptTx → FeeChange
fee_change added k = record { added = added; fee = k.fee; vsize = k.vsize }

-- one that stays leaves and comes where its fee is another, or its size
abbrev pub stay_changes : KeptTx → KeptTx → List FeeChange
stay_changes k l =
    if nat_eq k.fee l.fee && nat_eq k.vsize l.vsize then []
    else fee_change false k ∷ fee_change true l ∷ []

-- What changed of the fees, in order of arrival: those that stay keep their order, and those that came stand
-- at the end.
abbrev pub fee_changes : List KeptTx → List KeptTx → List FeeChange
fee_changes [] new = map (fee_change true) new
fee_changes (k ∷ old) [] = fee_change false k ∷ fee_changes old []
fee_changes (k ∷ old) (l ∷ new) =
    if same_hash k.txid l.txid then stay_changes k l ++ fee_changes old new
    else fee_change false k ∷ fee_changes old (l ∷ new)

-- these are the changes, in some order
abbrev pub AreFeeChanges : List KeptTx → List KeptTx → List FeeChange → Type 0
AreFeeChanges old new list = IsPermutation (fee_changes old new) list

-- 64 bits count the sizes of the entries together
abbrev pub FitTogether : List KeptTx → Type 0
FitTogether entries = sum_by (λ (k : KeptTx). k.vsize) entries < 2 ^ 64
