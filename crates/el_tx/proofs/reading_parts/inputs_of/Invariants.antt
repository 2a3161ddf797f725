use Rattle.std.proofs.Common.{◌≡◌, ◌-◌}
use Rattle.el_tx.specs.within.Reading.{many_at, input_at, inputs_at}
use Rattle.el_tx.proofs.reading_parts.inputs_of.Given as goal

abbrev pub invariant-loop : goal.invariant-loop
invariant-loop l = many_at (λ _. input_at) l.inputs (l.count - l.counter) l.c ≡ inputs_at l.count l.fn.c
