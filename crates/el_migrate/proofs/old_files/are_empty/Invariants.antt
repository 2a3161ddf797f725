use Rattle.std.proofs.Common.{◌≡◌, ◌<◌}
use Rattle.el_row_formats.specs.declared.table.Table.{Table}
use Rattle.el_row_formats.specs.Tables.{index_of}
use Rattle.el_rows.specs.Changes.{count_at}
use Rattle.el_migrate.proofs.old_files.are_empty.Given as goal

abbrev pub invariant-loop-t : goal.invariant-loop-t
invariant-loop-t l = (t : Table) → index_of t < l.t-index → count_at l.counts t ≡ 0
