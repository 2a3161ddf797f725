-- The bytes of each table's rows in format 1, which are only read. They are those of format 2 but for the
-- numbers of rows, the links and the counts of entries, which have four bytes each.
use Rattle.std.specs.Prelude.{◌≡◌, ◌<◌, ◌^◌, ℕ, List, ◌∷◌, ◌++◌, Option, length}
use Rattle.std.specs.Int.{w32, w64, to_le_bytes}
use Rattle.el_row_formats.specs.declared.table.Table.{Table}
use Rattle.el_row_formats.specs.declared.table.Table.TheVariants as table
use Rattle.el_row_formats.specs.declared.block_row.BlockRow.{BlockRow}
use Rattle.el_row_formats.specs.declared.tx_row.TxRow.{TxRow}
use Rattle.el_row_formats.specs.declared.head_row.HeadRow.{HeadRow}
use Rattle.el_row_formats.specs.declared.out_row.OutRow.{OutRow}
use Rattle.el_row_formats.specs.declared.in_row.InRow.{InRow}
use Rattle.el_row_formats.specs.declared.script_row.ScriptRow.{ScriptRow}
use Rattle.el_row_formats.specs.declared.entry_row.EntryRow.{EntryRow}
use Rattle.el_row_formats.specs.RowBytes.{link_number, state_number, state_by, state_of}

-- how many bytes each row of a table has
abbrev pub old_size_of : Table → ℕ
old_size_of table.Blocks = 112
old_size_of table.Txs = 68
old_size_of table.TxHeads = 4
old_size_of table.Outs = 21
old_size_of table.Ins = 4
old_size_of table.Scripts = 52
old_size_of table.ScriptHeads = 4
old_size_of table.Entries = 12

-- what the numbers of rows, links and counts of entries are below in a row
abbrev pub old_number_limit : ℕ
old_number_limit = 2 ^ 32

-- the four bytes of a link
abbrev pub old_link_bytes : Option ℕ → List ℕ
old_link_bytes link = to_le_bytes w32 (link_number link)

-- a block: header, file, offset, length, first transaction, transactions, sum of all coins after it
abbrev pub old_block_row_bytes : BlockRow → List ℕ
old_block_row_bytes r =
    r.header
    ++ (to_le_bytes w32 r.place.file ++ (to_le_bytes w64 r.place.offset ++ (to_le_bytes w32 r.place.len
    ++ (to_le_bytes w32 r.first_tx ++ (to_le_bytes w32 r.txs ++ to_le_bytes w64 r.sum)))))

-- each field fits its bytes
pub record FitsOldBlockRow (r : BlockRow) : Type 0 where
  pub header : length r.header ≡ 80
  pub file : r.place.file < 2 ^ 32
  pub offset : r.place.offset < 2 ^ 64
  pub len : r.place.len < 2 ^ 32
  pub first_tx : r.first_tx < old_number_limit
  pub txs : r.txs < 2 ^ 32
  pub sum : r.sum < 2 ^ 64

-- a transaction: txid, height, start, length, first output, outputs, first input, inputs, older, next
abbrev pub old_tx_row_bytes : TxRow → List ℕ
old_tx_row_bytes r =
    r.txid.0
    ++ (to_le_bytes w32 r.height ++ (to_le_bytes w32 r.start ++ (to_le_bytes w32 r.len
    ++ (to_le_bytes w32 r.first_out ++ (to_le_bytes w32 r.outs
    ++ (to_le_bytes w32 r.first_in ++ (to_le_bytes w32 r.ins
    ++ (old_link_bytes r.older ++ old_link_bytes r.next))))))))

-- each field fits its bytes
pub record FitsOldTxRow (r : TxRow) : Type 0 where
  pub txid : length r.txid.0 ≡ 32
  pub height : r.height < 2 ^ 32
  pub start : r.start < 2 ^ 32
  pub len : r.len < 2 ^ 32
  pub first_out : r.first_out < old_number_limit
  pub outs : r.outs < 2 ^ 32
  pub first_in : r.first_in < old_number_limit
  pub ins : r.ins < 2 ^ 32
  pub older : link_number r.older < old_number_limit
  pub next : link_number r.next < old_number_limit

-- the head of a bucket
abbrev pub old_head_row_bytes : HeadRow → List ℕ
old_head_row_bytes r = old_link_bytes r.head

-- each field fits its bytes
pub record FitsOldHeadRow (r : HeadRow) : Type 0 where
  pub head : link_number r.head < old_number_limit

-- the fields of an output's row: transaction, value, script, state, by
abbrev pub old_out_fields : OutRow → ℕ → ℕ → List ℕ
old_out_fields r state by =
    to_le_bytes w32 r.tx ++ (to_le_bytes w64 r.value ++ (to_le_bytes w32 r.script
    ++ (state ∷ to_le_bytes w32 by)))

-- the bytes of an output's row in format 1
abbrev pub old_out_row_bytes : OutRow → List ℕ
old_out_row_bytes r = old_out_fields r (state_number r.state) (state_by r.state)

-- what 21 bytes read as
pub record ReadsAsOldOut (bytes : List ℕ) (r : OutRow) : Type 0 where
  pub state : ℕ
  pub by : ℕ
  pub fields : bytes ≡ old_out_fields r state by
  pub is : r.state ≡ state_of state by

-- each field fits its bytes
pub record FitsOldOutRow (r : OutRow) : Type 0 where
  pub tx : r.tx < old_number_limit
  pub value : r.value < 2 ^ 64
  pub script : r.script < old_number_limit
  pub by : state_by r.state < old_number_limit

-- an input: the output that it takes
abbrev pub old_in_row_bytes : InRow → List ℕ
old_in_row_bytes r = to_le_bytes w32 r.out

-- each field fits its bytes
pub record FitsOldInRow (r : InRow) : Type 0 where
  pub out : r.out < old_number_limit

-- a script: script hash, next, last entry, entries, balance
abbrev pub old_script_row_bytes : ScriptRow → List ℕ
old_script_row_bytes r =
    r.script.0 ++ (old_link_bytes r.next ++ (old_link_bytes r.last
    ++ (to_le_bytes w32 r.entries ++ to_le_bytes w64 r.balance)))

-- each field fits its bytes
pub record FitsOldScriptRow (r : ScriptRow) : Type 0 where
  pub script : length r.script.0 ≡ 32
  pub next : link_number r.next < old_number_limit
  pub last : link_number r.last < old_number_limit
  pub entries : r.entries < old_number_limit
  pub balance : r.balance < 2 ^ 64

-- an entry: transaction, script, the entry before
abbrev pub old_entry_row_bytes : EntryRow → List ℕ
old_entry_row_bytes r = to_le_bytes w32 r.tx ++ (to_le_bytes w32 r.script ++ (old_link_bytes r.before))

-- each field fits its bytes
pub record FitsOldEntryRow (r : EntryRow) : Type 0 where
  pub tx : r.tx < old_number_limit
  pub script : r.script < old_number_limit
  pub before : link_number r.before < old_number_limit
