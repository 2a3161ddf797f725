use Rattle.std.proofs.Common.{◌≡◌, ◌++◌}
use Rattle.std.specs.Prelude.{nat_lt}
use Rattle.std.specs.List.{filter}
use Rattle.std.specs.Map.{keys_of}
use Rattle.el_rows.proofs.table_edits.TableEdits.changed_below.Given as goal

abbrev pub invariant-loop-row : goal.invariant-loop-row
invariant-loop-row l = l.rows.items ++ filter (λ i. nat_lt i l.count) l.row-iterator ≡ filter (λ i. nat_lt i l.count) (keys_of l.fn.self.changed)
