-- Where the tables of an index stand in its files, by its format.
use Rattle.std.specs.Prelude.{◌+◌, ℕ, List, map, get_or}
use Rattle.std.specs.List.{range_with_len}
use Rattle.el_row_formats.specs.declared.table.Table.{Table}
use Rattle.el_row_formats.specs.Tables.{index_of, number_of, row_at}
use Rattle.el_pages.specs.declared.layout.Layout.{Layout}

-- the number of a table's file
abbrev pub file_of : Layout → Table → ℕ
file_of l t = l.first + number_of t

-- the number of the redo file
abbrev pub redo_of : Layout → ℕ
redo_of l = l.first + 9

-- how many bytes each row of the table has
abbrev pub size_in : Layout → Table → ℕ
size_in l t = get_or l.sizes (index_of t) 0

-- how many rows the table may have
abbrev pub limit_in : Layout → Table → ℕ
limit_in l t = get_or l.limits (index_of t) 0

-- so many rows of that size, from the front of a file
unfoldable pub rows_in : ℕ → List ℕ → ℕ → List (List ℕ)
rows_in size file count = map (row_at size file) (range_with_len 0 count)
