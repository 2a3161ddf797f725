-- What rows of format 1 mean: they are the rows of the tables of an index, each number in its field.
use Rattle.std.specs.Prelude.{◌≡◌, ℕ, [], ◌∷◌, map}
use Rattle.std.specs.List.{AllByRecursion}
use Rattle.el_chain.specs.Chains.{Chain}
use Rattle.el_row_formats.specs.Tables as held
use Rattle.el_row_formats.specs.declared.table.Table.{Table}
use Rattle.el_row_formats.specs.declared.table.Table.TheVariants as table
use Rattle.el_row_formats.specs.OldRowBytes.{old_block_row_bytes, old_tx_row_bytes, old_head_row_bytes, old_out_row_bytes, old_in_row_bytes, old_script_row_bytes, old_entry_row_bytes, FitsOldBlockRow, FitsOldTxRow, FitsOldHeadRow, FitsOldOutRow, FitsOldInRow, FitsOldScriptRow, FitsOldEntryRow}
use Rattle.el_tables.specs.Tables as typed
use Rattle.el_tables.specs.Tables.{Stands, in_both}
use Rattle.el_schema.specs.Rows.{block_fields, tx_fields, head_fields, out_fields, in_fields, script_fields, entry_fields}
use Rattle.el_migrate.specs.declared.old_files.TheConstants.{OLD_BUCKETS}

-- the rows of bytes of each table
abbrev pub old_bytes_of : typed.Tables → held.Tables
old_bytes_of tb table.Blocks = map (λ b. old_block_row_bytes (block_fields b)) tb.blocks
old_bytes_of tb table.Txs = map (λ r. old_tx_row_bytes (tx_fields r)) tb.txs
old_bytes_of tb table.TxHeads = map (λ link. old_head_row_bytes (head_fields link)) tb.tx_heads
old_bytes_of tb table.Outs = map (λ x. old_out_row_bytes (out_fields x)) tb.outs
old_bytes_of tb table.Ins = map (λ k. old_in_row_bytes (in_fields k)) tb.ins
old_bytes_of tb table.Scripts = map (λ r. old_script_row_bytes (script_fields r)) tb.scripts
old_bytes_of tb table.ScriptHeads = map (λ link. old_head_row_bytes (head_fields link)) tb.script_heads
old_bytes_of tb table.Entries = map (λ e. old_entry_row_bytes (entry_fields e)) tb.entries

-- each number fits its field
pub record FitOldFields (tb : typed.Tables) : Type 0 where
  pub blocks : AllByRecursion (λ b. FitsOldBlockRow (block_fields b)) tb.blocks
  pub txs : AllByRecursion (λ r. FitsOldTxRow (tx_fields r)) tb.txs
  pub tx_heads : AllByRecursion (λ link. FitsOldHeadRow (head_fields link)) tb.tx_heads
  pub outs : AllByRecursion (λ x. FitsOldOutRow (out_fields x)) tb.outs
  pub ins : AllByRecursion (λ k. FitsOldInRow (in_fields k)) tb.ins
  pub scripts : AllByRecursion (λ r. FitsOldScriptRow (script_fields r)) tb.scripts
  pub script_heads : AllByRecursion (λ link. FitsOldHeadRow (head_fields link)) tb.script_heads
  pub entries : AllByRecursion (λ e. FitsOldEntryRow (entry_fields e)) tb.entries

-- the rows of bytes are those of these tables
pub record EncodeOld (rows : held.Tables) (tb : typed.Tables) : Type 0 where
  pub each : (t : Table) → rows t ≡ old_bytes_of tb t
  pub fit : FitOldFields tb

-- how many rows each table of heads has: none without blocks
abbrev pub old_heads : Chain → ℕ
old_heads [] = 0
old_heads (b ∷ bs) = OLD_BUCKETS

-- The rows of bytes are those of tables that stand for the chain in format 1.
pub record StandForOld (rows : held.Tables) (chain : Chain) : Type 0 where
  pub tables : typed.Tables
  pub encode : EncodeOld rows tables
  pub stand : Stands (in_both (old_heads chain)) tables chain
