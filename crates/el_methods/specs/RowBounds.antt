-- How many rows of the index a call reads at most.
use Rattle.std.specs.Prelude.{ℕ, ◌+◌, ◌*◌, ◌==◌, min, if◌then◌else◌, List, length, Option, None, Some}
use Rattle.el_base.specs.declared.hash.Hash32.{Hash32}
use Rattle.el_chain.specs.Chains.{Chain}
use Rattle.el_levels.specs.declared.groups.TheConstants.{GROUP}
use Rattle.el_model.specs.Queries.{txs_in_bucket, txids_at}
use Rattle.el_view.specs.Rows.{script_rows, history_rows, unspent_rows}
use Rattle.el_methods.specs.Results.{header_count}
use Rattle.el_calls.specs.declared.call.Call.{Call}
use Rattle.el_calls.specs.declared.call.Call.TheVariants as call

-- A proof among the block hashes of heights 0 to the checkpoint: the headers of two groups of them, or of all
-- where these are fewer; none where the checkpoint is 0.
abbrev pub proof_rows : ℕ → ℕ
proof_rows cp_height = if cp_height == 0 then 0 else min (2 * GROUP) (cp_height + 1)

-- the txids of a block
abbrev pub ids_rows : Option (List Hash32) → ℕ
ids_rows None = 0
ids_rows (Some ids) = 1 + length ids

-- `buckets` is the number of buckets of the index. A call that isn't named reads none.
abbrev pub rows_read_by : Chain → ℕ → Call → ℕ
rows_read_by chain buckets (call.BlockHeader height cp_height) = 1 + proof_rows cp_height
rows_read_by chain buckets (call.BlockHeaders start count cp_height) =
    header_count chain start count + proof_rows cp_height
rows_read_by chain buckets call.HeadersSubscribe = 1
rows_read_by chain buckets (call.GetBalance script_hash) = script_rows chain buckets script_hash.0
rows_read_by chain buckets (call.GetHistory script_hash) = history_rows chain buckets script_hash.0
rows_read_by chain buckets (call.ScriptHashSubscribe script_hash) = history_rows chain buckets script_hash.0
rows_read_by chain buckets (call.ListUnspent script_hash) = unspent_rows chain buckets script_hash.0
rows_read_by chain buckets (call.TransactionGet id verbose) = 2 + txs_in_bucket chain buckets id.0
rows_read_by chain buckets (call.GetMerkle id height) = ids_rows (txids_at chain height)
rows_read_by chain buckets (call.IdFromPos height pos merkle) = ids_rows (txids_at chain height)
rows_read_by chain buckets c = 0
