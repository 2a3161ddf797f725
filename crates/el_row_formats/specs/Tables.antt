-- Tables of rows, each a list of rows of bytes.
use Rattle.std.specs.Prelude.{◌+◌, ◌*◌, ◌^◌, ℕ, List, [], ◌∷◌, map, get_or, slice_range}
use Rattle.std.specs.Ordering.{nat_cmp, ordering_then}
use Rattle.std.specs.declared.cmp.Ordering.{Ordering}
use Rattle.el_chain.specs.RowCounts.{row_limit}
use Rattle.el_row_formats.specs.declared.table.Table.{Table}
use Rattle.el_row_formats.specs.declared.table.Table.TheVariants as table
use Rattle.el_row_formats.specs.declared.table.RowKey.{RowKey}

-- the rows of each table
abbrev pub Tables : Type 0
Tables = Table → List (List ℕ)

-- the place of a table in a list of all eight
abbrev pub index_of : Table → ℕ
index_of table.Blocks = 0
index_of table.Txs = 1
index_of table.TxHeads = 2
index_of table.Outs = 3
index_of table.Ins = 4
index_of table.Scripts = 5
index_of table.ScriptHeads = 6
index_of table.Entries = 7

-- the tables in a list of them
abbrev pub tables_listed : List (List (List ℕ)) → Tables
tables_listed list t = get_or list (index_of t) []

-- the list of the eight tables, in the order of their places
abbrev pub list_of_tables : Tables → List (List (List ℕ))
list_of_tables tables = map tables
    (table.Blocks ∷ table.Txs ∷ table.TxHeads ∷ table.Outs
    ∷ table.Ins ∷ table.Scripts ∷ table.ScriptHeads ∷ table.Entries ∷ [])

-- the row of that number among rows of one size, whose bytes stand one after another
abbrev pub row_at : ℕ → List ℕ → ℕ → List ℕ
row_at size bytes i = slice_range bytes (i * size) (i * size + size)

-- the number that faults and files name it by
abbrev pub number_of : Table → ℕ
number_of t = index_of t + 1

-- how many bytes each of its rows has
abbrev pub size_of : Table → ℕ
size_of table.Blocks = 116
size_of table.Txs = 84
size_of table.TxHeads = 8
size_of table.Outs = 33
size_of table.Ins = 8
size_of table.Scripts = 64
size_of table.ScriptHeads = 8
size_of table.Entries = 24

-- how many rows it may have
abbrev pub limit_of : Table → ℕ
limit_of t = row_limit (number_of t)

-- how many rows it has before the first block, where there are 2^bits buckets: the tables of heads have all
-- of theirs, the others none
abbrev pub first_count : ℕ → Table → ℕ
first_count bits table.TxHeads = 2 ^ bits
first_count bits table.ScriptHeads = 2 ^ bits
first_count bits t = 0

-- the key of a row: its table and its number
abbrev pub key : Table → ℕ → RowKey
key t i = record { table = t; row = i }

-- rows by rising table, and then by rising number
abbrev pub row_cmp : RowKey → RowKey → Ordering
row_cmp a b = ordering_then (nat_cmp (index_of a.table) (index_of b.table)) (nat_cmp a.row b.row)
