-- How many rows of the index are read at most for a script hash, where they are put into so many buckets.
use Rattle.std.specs.Prelude.{ℕ, ◌+◌, ◌*◌, List, length}
use Rattle.el_chain.specs.Chains.{Chain}
use Rattle.el_chain.specs.History.{history}
use Rattle.el_model.specs.Queries.{scripts_in_bucket, outputs_of_history}

-- how many rows are read at most to find the script hash
abbrev pub script_rows : Chain → ℕ → List ℕ → ℕ
script_rows chain buckets script_hash = 1 + scripts_in_bucket chain buckets script_hash

-- how many rows are read at most to list its history
abbrev pub history_rows : Chain → ℕ → List ℕ → ℕ
history_rows chain buckets script_hash =
    script_rows chain buckets script_hash + 2 * length (history chain script_hash)

-- how many rows are read at most to list its coins
abbrev pub unspent_rows : Chain → ℕ → List ℕ → ℕ
unspent_rows chain buckets script_hash =
    history_rows chain buckets script_hash + outputs_of_history chain script_hash
