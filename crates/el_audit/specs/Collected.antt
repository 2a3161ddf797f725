-- How many rows a ledger reads for claims.
use Rattle.std.specs.Prelude.{ℕ, ◌+◌, ◌*◌, List, length, sum_by}
use Rattle.el_base.specs.declared.hash.Hash32.{Hash32}
use Rattle.el_chain.specs.Chains.{Chain}
use Rattle.el_chain.specs.History.{history}
use Rattle.el_model.specs.Queries.{scripts_in_bucket, outputs_of_history}

-- The most rows that are read for the claim of a script hash, among so many buckets: its history's, its
-- coins' and its balance's.
abbrev pub claim_rows : Chain → ℕ → Hash32 → ℕ
claim_rows chain buckets s =
    3 * (1 + scripts_in_bucket chain buckets s.0) + 4 * length (history chain s.0)
    + outputs_of_history chain s.0

-- those for the claims of several
abbrev pub claims_rows : Chain → ℕ → List Hash32 → ℕ
claims_rows chain buckets scripts = sum_by (claim_rows chain buckets) scripts
