-- Outputs by outpoint: which row an outpoint names, how many rows are read to find it, and balances that fit.
use Rattle.std.specs.Prelude.{◌<◌, ◌+◌, ◌^◌, ℕ, List, map, take, slice_get, count_by, Option, option_map, option_and_then}
use Rattle.el_base.specs.declared.hash.Hash32.{Hash32}
use Rattle.el_tx.specs.declared.types.Outpoint.{Outpoint}
use Rattle.el_chain.specs.Headers.{same_hash}
use Rattle.el_tables.specs.Lists.{ListedTx, ListedOut, Lists, output_number, coin_number, replaced, balance_of}
use Rattle.el_buckets.specs.Buckets.{bucket_size}
use Rattle.el_schema.specs.Rows.{out_fields}
use Rattle.el_spend.specs.declared.lookup.NamedOutput.{NamedOutput}

-- the output of that number with its row, if there is one
abbrev pub output_numbered : List ListedOut → ℕ → Option NamedOutput
output_numbered outs k = option_map (λ x. record { number = k; row = out_fields x }) (slice_get outs k)

-- the output that an outpoint names among the first transactions, so many, with its row
abbrev pub named_among : Outpoint → ℕ → Lists → Option NamedOutput
named_among o count l = option_and_then (output_numbered l.outs) (output_number o (take count l.txs))

-- the coin of the outpoint among them, with its row
abbrev pub coin_among : Outpoint → ℕ → Lists → Option NamedOutput
coin_among o count l = option_and_then (output_numbered l.outs) (coin_number o (take count l.txs) l.outs)

-- the coin that an output replaces, of the transaction of that number and with that index, with its row
abbrev pub replaced_output : ℕ → ℕ → Lists → Option NamedOutput
replaced_output tx index l = option_and_then (output_numbered l.outs) (replaced tx index l)

-- how many transactions have the txid
abbrev pub txs_with : Hash32 → List ListedTx → ℕ
txs_with id txs = count_by (λ (t : ListedTx). same_hash t.txid id) txs

-- The most rows that are read to find an output by its txid, where there are so many buckets: a head, the
-- transactions in the txid's bucket, those with the txid, and the output.
abbrev pub rows_to_find : ℕ → Hash32 → Lists → ℕ
rows_to_find count id l =
    1 + bucket_size count id (map (λ (t : ListedTx). t.txid) l.txs) + txs_with id l.txs + 1

-- the balance of each script fits 64 bits
abbrev pub BalancesFit : List ListedOut → Type 0
BalancesFit outs = (script : ℕ) → balance_of script outs < 2 ^ 64
