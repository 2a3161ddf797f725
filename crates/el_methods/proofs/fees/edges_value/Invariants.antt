use Rattle.std.proofs.Common.{◌≡◌, map, take}
use Rattle.el_methods.specs.Results.{edge_value}
use Rattle.el_methods.proofs.fees.edges_value.Given as goal

abbrev pub invariant-loop-row : goal.invariant-loop-row
invariant-loop-row l = l.list ≡ map edge_value (take l.row-index l.rows)
