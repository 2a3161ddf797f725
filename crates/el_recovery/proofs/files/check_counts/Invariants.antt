use Rattle.std.proofs.Common.{◌≤◌, ◌<◌}
use Rattle.el_row_formats.specs.declared.table.Table.{Table}
use Rattle.el_row_formats.specs.Tables.{index_of}
use Rattle.el_rows.specs.Changes.{count_at}
use Rattle.el_pages.specs.declared.layout.TheConstants.{FORMAT_2}
use Rattle.el_pages.specs.Layouts.{limit_in}
use Rattle.el_recovery.proofs.files.check_counts.Given as goal

abbrev pub invariant-loop-t : goal.invariant-loop-t
invariant-loop-t l = (t : Table) → index_of t < l.t-index → count_at l.counts t ≤ limit_in FORMAT_2 t
