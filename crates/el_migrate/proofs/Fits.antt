-- A row whose numbers fit their fields in format 1 fits those of format 2.
use Rattle.std.proofs.Common.{◌<◌, arith}
use Rattle.el_row_formats.specs.declared.block_row.BlockRow.{BlockRow}
use Rattle.el_row_formats.specs.declared.tx_row.TxRow.{TxRow}
use Rattle.el_row_formats.specs.declared.out_row.OutRow.{OutRow}
use Rattle.el_row_formats.specs.declared.in_row.InRow.{InRow}
use Rattle.el_row_formats.specs.declared.script_row.ScriptRow.{ScriptRow}
use Rattle.el_row_formats.specs.declared.entry_row.EntryRow.{EntryRow}
use Rattle.el_row_formats.specs.RowBytes.{link_number, number_limit, FitsBlockRow, FitsTxRow, FitsOutRow, FitsInRow, FitsScriptRow, FitsEntryRow}
use Rattle.el_row_formats.specs.OldRowBytes.{FitsOldBlockRow, FitsOldTxRow, FitsOldOutRow, FitsOldInRow, FitsOldScriptRow, FitsOldEntryRow}

pub fits_block : (r : BlockRow) → FitsOldBlockRow r → FitsBlockRow r
fits_block r f = record {
  header = f.header;
  file = f.file;
  offset = f.offset;
  len = f.len;
  first_tx = (let n = f.first_tx in omega (arith, n));
  txs = f.txs;
  sum = f.sum;
}

-- with a link of its own
pub fits_tx : (r : TxRow) → FitsOldTxRow r → (next : _) → link_number next < number_limit → FitsTxRow (record r { next = next })
fits_tx r f next small = record {
  txid = f.txid;
  height = f.height;
  start = f.start;
  len = f.len;
  first_out = (let n = f.first_out in omega (arith, n));
  outs = f.outs;
  first_in = (let n = f.first_in in omega (arith, n));
  ins = f.ins;
  older = (let n = f.older in omega (arith, n));
  next = small;
}

pub fits_out : (r : OutRow) → FitsOldOutRow r → FitsOutRow r
fits_out r f = record {
  tx = (let n = f.tx in omega (arith, n));
  value = f.value;
  script = (let n = f.script in omega (arith, n));
  by = (let n = f.by in omega (arith, n));
}

pub fits_in : (r : InRow) → FitsOldInRow r → FitsInRow r
fits_in r f = record { out = (let n = f.out in omega (arith, n)) }

pub fits_script : (r : ScriptRow) → FitsOldScriptRow r → (next : _) → link_number next < number_limit → FitsScriptRow (record r { next = next })
fits_script r f next small = record {
  script = f.script;
  next = small;
  last = (let n = f.last in omega (arith, n));
  entries = (let n = f.entries in omega (arith, n));
  balance = f.balance;
}

pub fits_entry : (r : EntryRow) → FitsOldEntryRow r → FitsEntryRow r
fits_entry r f = record {
  tx = (let n = f.tx in omega (arith, n));
  script = (let n = f.script in omega (arith, n));
  before = (let n = f.before in omega (arith, n));
}
