-- The bytes of each table's rows, in format 2. Numbers are little endian. A link names a row that may be
-- absent: it is the row's number plus 1, or 0 for none.
use Rattle.std.specs.Prelude.{◌≡◌, ◌<◌, ◌+◌, ◌^◌, ◌==◌, ℕ, List, ◌∷◌, ◌++◌, Option, None, Some, length, if◌then◌else◌}
use Rattle.std.specs.Int.{w32, w64, to_le_bytes}
use Rattle.el_row_formats.specs.declared.block_row.BlockRow.{BlockRow}
use Rattle.el_row_formats.specs.declared.tx_row.TxRow.{TxRow}
use Rattle.el_row_formats.specs.declared.head_row.HeadRow.{HeadRow}
use Rattle.el_row_formats.specs.declared.out_row.OutRow.{OutRow}
use Rattle.el_row_formats.specs.declared.in_row.InRow.{InRow}
use Rattle.el_row_formats.specs.declared.script_row.ScriptRow.{ScriptRow}
use Rattle.el_row_formats.specs.declared.entry_row.EntryRow.{EntryRow}
use Rattle.el_row_formats.specs.declared.out_row.State.{State}
use Rattle.el_row_formats.specs.declared.out_row.State.TheVariants as state
use Rattle.el_row_formats.specs.declared.limits.TheConstants.{MAX_NUMBER}

-- what the numbers of rows, links and counts of entries are below in a row
abbrev pub number_limit : ℕ
number_limit = MAX_NUMBER + 1

-- the number that a link is written as
abbrev pub link_number : Option ℕ → ℕ
link_number None = 0
link_number (Some n) = n + 1

-- a link in eight bytes
abbrev pub link_bytes : Option ℕ → List ℕ
link_bytes link = to_le_bytes w64 (link_number link)

-- an output's state: 0 unspent, 1 spent, 2 buried
abbrev pub state_number : State → ℕ
state_number state.Unspent = 0
state_number (state.Spent by) = 1
state_number (state.Buried by) = 2

-- the transaction that spent or buried the output, or 0 where none did
abbrev pub state_by : State → ℕ
state_by state.Unspent = 0
state_by (state.Spent by) = by
state_by (state.Buried by) = by

-- the state of these numbers: one above 2 reads as buried
abbrev pub state_of : ℕ → ℕ → State
state_of n by = if n == 0 then state.Unspent else if n == 1 then state.Spent by else state.Buried by

-- a block: header, file, offset, length, first transaction, transactions, sum of all coins after it
abbrev pub block_row_bytes : BlockRow → List ℕ
block_row_bytes r =
    r.header
    ++ (to_le_bytes w32 r.place.file ++ (to_le_bytes w64 r.place.offset ++ (to_le_bytes w32 r.place.len
    ++ (to_le_bytes w64 r.first_tx ++ (to_le_bytes w32 r.txs ++ to_le_bytes w64 r.sum)))))

-- each field fits its bytes
pub record FitsBlockRow (r : BlockRow) : Type 0 where
  pub header : length r.header ≡ 80
  pub file : r.place.file < 2 ^ 32
  pub offset : r.place.offset < 2 ^ 64
  pub len : r.place.len < 2 ^ 32
  pub first_tx : r.first_tx < number_limit
  pub txs : r.txs < 2 ^ 32
  pub sum : r.sum < 2 ^ 64

-- a transaction: txid, height, start, length, first output, outputs, first input, inputs, older, next
abbrev pub tx_row_bytes : TxRow → List ℕ
tx_row_bytes r =
    r.txid.0
    ++ (to_le_bytes w32 r.height ++ (to_le_bytes w32 r.start ++ (to_le_bytes w32 r.len
    ++ (to_le_bytes w64 r.first_out ++ (to_le_bytes w32 r.outs
    ++ (to_le_bytes w64 r.first_in ++ (to_le_bytes w32 r.ins
    ++ (link_bytes r.older ++ link_bytes r.next))))))))

-- each field fits its bytes
pub record FitsTxRow (r : TxRow) : Type 0 where
  pub txid : length r.txid.0 ≡ 32
  pub height : r.height < 2 ^ 32
  pub start : r.start < 2 ^ 32
  pub len : r.len < 2 ^ 32
  pub first_out : r.first_out < number_limit
  pub outs : r.outs < 2 ^ 32
  pub first_in : r.first_in < number_limit
  pub ins : r.ins < 2 ^ 32
  pub older : link_number r.older < number_limit
  pub next : link_number r.next < number_limit

-- the head of a bucket
abbrev pub head_row_bytes : HeadRow → List ℕ
head_row_bytes r = link_bytes r.head

-- each field fits its bytes
pub record FitsHeadRow (r : HeadRow) : Type 0 where
  pub head : link_number r.head < number_limit

-- the fields of an output's row: transaction, value, script, state, by
abbrev pub out_fields : OutRow → ℕ → ℕ → List ℕ
out_fields r state by =
    to_le_bytes w64 r.tx ++ (to_le_bytes w64 r.value ++ (to_le_bytes w64 r.script
    ++ (state ∷ to_le_bytes w64 by)))

-- the bytes of an output's row
abbrev pub out_row_bytes : OutRow → List ℕ
out_row_bytes r = out_fields r (state_number r.state) (state_by r.state)

-- what 33 bytes read as
pub record ReadsAsOut (bytes : List ℕ) (r : OutRow) : Type 0 where
  pub state : ℕ
  pub by : ℕ
  pub fields : bytes ≡ out_fields r state by
  pub is : r.state ≡ state_of state by

-- each field fits its bytes
pub record FitsOutRow (r : OutRow) : Type 0 where
  pub tx : r.tx < number_limit
  pub value : r.value < 2 ^ 64
  pub script : r.script < number_limit
  pub by : state_by r.state < number_limit

-- an input: the output that it takes
abbrev pub in_row_bytes : InRow → List ℕ
in_row_bytes r = to_le_bytes w64 r.out

-- each field fits its bytes
pub record FitsInRow (r : InRow) : Type 0 where
  pub out : r.out < number_limit

-- a script: script hash, next, last entry, entries, balance
abbrev pub script_row_bytes : ScriptRow → List ℕ
script_row_bytes r =
    r.script.0 ++ (link_bytes r.next ++ (link_bytes r.last
    ++ (to_le_bytes w64 r.entries ++ to_le_bytes w64 r.balance)))

-- each field fits its bytes
pub record FitsScriptRow (r : ScriptRow) : Type 0 where
  pub script : length r.script.0 ≡ 32
  pub next : link_number r.next < number_limit
  pub last : link_number r.last < number_limit
  pub entries : r.entries < number_limit
  pub balance : r.balance < 2 ^ 64

-- an entry: transaction, script, the entry before
abbrev pub entry_row_bytes : EntryRow → List ℕ
entry_row_bytes r = to_le_bytes w64 r.tx ++ (to_le_bytes w64 r.script ++ (link_bytes r.before))

-- each field fits its bytes
pub record FitsEntryRow (r : EntryRow) : Type 0 where
  pub tx : r.tx < number_limit
  pub script : r.script < number_limit
  pub before : link_number r.before < number_limit
