-- The bytes of a commit: what the body of a redo record is made of, and what a meta row of format 2 begins
-- with. Numbers are little endian.
use Rattle.std.specs.Prelude.{ℕ, List, [], ◌∷◌, ◌++◌}
use Rattle.std.specs.Int.{w32, w64, to_le_bytes}
use Rattle.el_row_formats.specs.declared.table.Table.{Table}
use Rattle.el_row_formats.specs.declared.table.Table.TheVariants as table
use Rattle.el_row_formats.specs.declared.table.RowKey.{RowKey}
use Rattle.el_row_formats.specs.Tables.{number_of}
use Rattle.el_rows.specs.Changes.{Changes}
use Rattle.el_redo.specs.declared.head.TheConstants.{FORMAT}

-- all tables, by rising number
abbrev pub all_tables : List Table
all_tables = table.Blocks ∷ table.Txs ∷ table.TxHeads ∷ table.Outs
    ∷ table.Ins ∷ table.Scripts ∷ table.ScriptHeads ∷ table.Entries ∷ []

-- the letters 'ELIX', the format, the network's magic, and how many bits the number of a bucket has
unfoldable pub head_bytes : List ℕ → ℕ → List ℕ
head_bytes magic bits = 69 ∷ 76 ∷ 73 ∷ 88 ∷ (to_le_bytes w32 FORMAT ++ (magic ++ to_le_bytes w32 bits))

-- numbers, each in eight bytes
abbrev pub numbers_bytes : List ℕ → List ℕ
numbers_bytes [] = []
numbers_bytes (n ∷ ns) = to_le_bytes w64 n ++ numbers_bytes ns

-- a changed row: its table's number, its own number, and its bytes
unfoldable pub change_bytes : RowKey × List ℕ → List ℕ
change_bytes e = number_of e.0.table ∷ (to_le_bytes w64 e.0.row ++ e.1)

-- changed rows one after the other
abbrev pub changes_bytes : Changes → List ℕ
changes_bytes [] = []
changes_bytes (e ∷ es) = change_bytes e ++ changes_bytes es
