-- Rows of bytes that stand for a chain.
use Rattle.std.specs.Prelude.{◌<◌, ℕ, length}
use Rattle.el_chain.specs.Chains.{Chain}
use Rattle.el_tables.specs.ChainLists.{lists, listed_blocks}
use Rattle.el_tables.specs.Tables as typed
use Rattle.el_tables.specs.Tables.{Stands, in_both}
use Rattle.el_row_formats.specs.Tables as held
use Rattle.el_row_formats.specs.declared.table.Table.TheVariants as table
use Rattle.el_schema.specs.Rows.{Encode, Hold}

-- The rows of bytes are those of tables that stand for the chain. Each table of heads has so many rows, also
-- on no blocks, and the bucket of a hash is its number modulo them.
pub record StandWith (heads : ℕ) (rows : held.Tables) (chain : Chain) : Type 0 where
  pub some : 0 < heads
  pub tables : typed.Tables
  pub encode : Encode rows tables
  pub stand : Stands (in_both heads) tables chain

-- The rows of bytes stand for the chain, however many heads they have.
abbrev pub StandFor : held.Tables → Chain → Type 0
StandFor rows chain = (heads : ℕ) × StandWith heads rows chain

-- into how many buckets the rows are put: there are so many heads of each kind
abbrev pub buckets_in : held.Tables → ℕ
buckets_in rows = length (rows table.TxHeads)

-- The rows of bytes hold the blocks and the lists of the chain, with so many heads.
abbrev pub HoldChain : ℕ → held.Tables → Chain → Type 0
HoldChain heads rows chain = Hold (in_both heads) (listed_blocks chain) (lists chain) rows
