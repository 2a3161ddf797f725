-- The tables in order.
use Rattle.std.proofs.Common.{◌≡◌, ◌<◌, ℕ, get_or, arith}
use Rattle.el_row_formats.specs.declared.table.Table.{Table}
use Rattle.el_row_formats.specs.declared.table.Table.TheVariants as table
use Rattle.el_row_formats.specs.Tables.{index_of}
use Rattle.el_redo.specs.RedoBody.{all_tables}

-- the one at a place
abbrev pub nth_table : ℕ → Table
nth_table n = get_or all_tables n table.Blocks

pub nth_index : (n : ℕ) → n < 8 → index_of (nth_table n) ≡ n
nth_index n lt = grind (arith, lt)
