-- What rows of bytes mean: they are the rows of the tables of an index, each number in its field.
use Rattle.std.specs.Prelude.{◌≡◌, ℕ, List, map, Option}
use Rattle.std.specs.List.{AllByRecursion}
use Rattle.el_tables.specs.ChainLists.{ListedBlock}
use Rattle.el_tables.specs.Lists as listed
use Rattle.el_tables.specs.Lists.State.{Unspent, Spent, Buried}
use Rattle.el_tables.specs.Tables as typed
use Rattle.el_row_formats.specs.Tables as held
use Rattle.el_row_formats.specs.declared.table.Table.{Table}
use Rattle.el_row_formats.specs.declared.table.Table.TheVariants as table
use Rattle.el_row_formats.specs.declared.block_row.BlockRow.{BlockRow}
use Rattle.el_row_formats.specs.declared.tx_row.TxRow.{TxRow}
use Rattle.el_row_formats.specs.declared.head_row.HeadRow.{HeadRow}
use Rattle.el_row_formats.specs.declared.out_row.OutRow.{OutRow}
use Rattle.el_row_formats.specs.declared.out_row.State as out_state
use Rattle.el_row_formats.specs.declared.out_row.State.TheVariants as out
use Rattle.el_row_formats.specs.declared.in_row.InRow.{InRow}
use Rattle.el_row_formats.specs.declared.script_row.ScriptRow.{ScriptRow}
use Rattle.el_row_formats.specs.declared.entry_row.EntryRow.{EntryRow}
use Rattle.el_row_formats.specs.RowBytes.{block_row_bytes, tx_row_bytes, head_row_bytes, out_row_bytes, in_row_bytes, script_row_bytes, entry_row_bytes, FitsBlockRow, FitsTxRow, FitsHeadRow, FitsOutRow, FitsInRow, FitsScriptRow, FitsEntryRow}

-- 1. Fields of rows

-- the fields of a block's row
abbrev pub block_fields : ListedBlock → BlockRow
block_fields b = record {
  header = b.header;
  place = b.place;
  first_tx = b.first_tx;
  txs = b.txs;
  sum = b.sum;
}

-- the fields of a transaction's row: what is listed of it, and its links
abbrev pub tx_fields : typed.TxRow → TxRow
tx_fields r = record {
  txid = r.listed.txid;
  height = r.listed.height;
  start = r.listed.start;
  len = r.listed.len;
  first_out = r.listed.first_out;
  outs = r.listed.outs;
  first_in = r.listed.first_in;
  ins = r.listed.ins;
  older = r.older;
  next = r.next;
}

-- the transaction that a row lists; its links are left out
abbrev pub listed_tx : TxRow → listed.ListedTx
listed_tx r = record {
  txid = r.txid;
  height = r.height;
  start = r.start;
  len = r.len;
  first_out = r.first_out;
  outs = r.outs;
  first_in = r.first_in;
  ins = r.ins;
}

-- the field of the row of a bucket: the newest row in it
abbrev pub head_fields : Option ℕ → HeadRow
head_fields link = record { head = link }

-- the state of an output, as its row has it
abbrev pub state_fields : listed.State → out_state.State
state_fields Unspent = out.Unspent
state_fields (Spent by) = out.Spent by
state_fields (Buried by) = out.Buried by

-- the fields of an output's row
abbrev pub out_fields : listed.ListedOut → OutRow
out_fields x = record { tx = x.tx; value = x.value; script = x.script; state = state_fields x.state }

-- the field of an input's row: the number of the output that it takes
abbrev pub in_fields : ℕ → InRow
in_fields k = record { out = k }

-- the fields of a script hash's row: with its links, and its sums
abbrev pub script_fields : typed.ScriptRow → ScriptRow
script_fields r = record {
  script = r.script;
  next = r.next;
  last = r.last;
  entries = r.entries;
  balance = r.balance;
}

-- the fields of an entry's row: with the link to the one before
abbrev pub entry_fields : typed.EntryRow → EntryRow
entry_fields e = record { tx = e.listed.tx; script = e.listed.script; before = e.before }

-- 2. Tables of rows

-- the rows of bytes of each table
abbrev pub bytes_of : typed.Tables → held.Tables
bytes_of tb table.Blocks = map (λ b. block_row_bytes (block_fields b)) tb.blocks
bytes_of tb table.Txs = map (λ r. tx_row_bytes (tx_fields r)) tb.txs
bytes_of tb table.TxHeads = map (λ link. head_row_bytes (head_fields link)) tb.tx_heads
bytes_of tb table.Outs = map (λ x. out_row_bytes (out_fields x)) tb.outs
bytes_of tb table.Ins = map (λ k. in_row_bytes (in_fields k)) tb.ins
bytes_of tb table.Scripts = map (λ r. script_row_bytes (script_fields r)) tb.scripts
bytes_of tb table.ScriptHeads = map (λ link. head_row_bytes (head_fields link)) tb.script_heads
bytes_of tb table.Entries = map (λ e. entry_row_bytes (entry_fields e)) tb.entries

-- each number fits its field
pub record FitFields (tb : typed.Tables) : Type 0 where
  pub blocks : AllByRecursion (λ b. FitsBlockRow (block_fields b)) tb.blocks
  pub txs : AllByRecursion (λ r. FitsTxRow (tx_fields r)) tb.txs
  pub tx_heads : AllByRecursion (λ link. FitsHeadRow (head_fields link)) tb.tx_heads
  pub outs : AllByRecursion (λ x. FitsOutRow (out_fields x)) tb.outs
  pub ins : AllByRecursion (λ k. FitsInRow (in_fields k)) tb.ins
  pub scripts : AllByRecursion (λ r. FitsScriptRow (script_fields r)) tb.scripts
  pub script_heads : AllByRecursion (λ link. FitsHeadRow (head_fields link)) tb.script_heads
  pub entries : AllByRecursion (λ e. FitsEntryRow (entry_fields e)) tb.entries

-- the rows of bytes are those of these tables
pub record Encode (rows : held.Tables) (tb : typed.Tables) : Type 0 where
  pub each : (t : Table) → rows t ≡ bytes_of tb t
  pub fit : FitFields tb

-- The rows of bytes are those of blocks and lists, with so many heads: links, heads, counts and sums follow
-- from the lists. No chain is named.
abbrev pub Hold : typed.HeadCounts → List ListedBlock → listed.Lists → held.Tables → Type 0
Hold counts bs l rows = Encode rows (typed.tables_of counts bs l)
