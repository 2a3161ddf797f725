use Rattle.std.proofs.Common.{◌<◌, ◌≤◌, length}
use Rattle.el_row_formats.specs.declared.table.Table.{Table}
use Rattle.el_row_formats.specs.Tables.{index_of}
use Rattle.el_rows.specs.Changes.{count_at}
use Rattle.el_vec_rows.specs.within.InMemory.{tables_held, AllGrown}
use Rattle.el_vec_rows.proofs.vec_rows.grow.Given as goal

abbrev pub invariant-loop-t : goal.invariant-loop-t
invariant-loop-t l = AllGrown l.fn.kept l.kept × ((t : Table) → index_of t < l.t-index → count_at l.counts t ≤ length (tables_held l.kept t))
