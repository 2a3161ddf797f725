-- Rows whose link within their bucket is made anew.
use Rattle.std.specs.Prelude.{◌==◌, ℕ, List}
use Rattle.el_base.specs.declared.hash.Hash32.{Hash32}
use Rattle.el_row_formats.specs.declared.tx_row.TxRow.{TxRow}
use Rattle.el_row_formats.specs.declared.script_row.ScriptRow.{ScriptRow}
use Rattle.el_tables.specs.Tables.{bucket_in, greatest}

-- the row of a transaction after those with these txids, with so many buckets
abbrev pub relinked_tx : ℕ → List Hash32 → TxRow → TxRow
relinked_tx count hashes r = record {
  txid = r.txid;
  height = r.height;
  start = r.start;
  len = r.len;
  first_out = r.first_out;
  outs = r.outs;
  first_in = r.first_in;
  ins = r.ins;
  older = r.older;
  next = greatest (λ h. bucket_in count h == bucket_in count r.txid) hashes;
}

-- the row of a script hash after those, with so many buckets
abbrev pub relinked_script : ℕ → List Hash32 → ScriptRow → ScriptRow
relinked_script count hashes r = record {
  script = r.script;
  next = greatest (λ h. bucket_in count h == bucket_in count r.script) hashes;
  last = r.last;
  entries = r.entries;
  balance = r.balance;
}
