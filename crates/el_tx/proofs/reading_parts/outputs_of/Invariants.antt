use Rattle.std.proofs.Common.{◌≡◌, ◌-◌, ◌≤◌}
use Rattle.el_tx.specs.Encoding.{max_money}
use Rattle.el_tx.specs.Encoding.{total_value}
use Rattle.el_tx.specs.within.Reading.{many_at, next_output_at, outputs_at}
use Rattle.el_tx.proofs.reading_parts.outputs_of.Given as goal

abbrev pub invariant-loop : goal.invariant-loop
invariant-loop l = record {
  sum : l.sum ≡ total_value l.outputs;
  bound : l.sum ≤ max_money;
  read : many_at next_output_at l.outputs (l.count - l.counter) l.c ≡ outputs_at l.count l.fn.c;
}
