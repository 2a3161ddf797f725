use Rattle.std.proofs.Common.{◌≡◌, []}
use Rattle.el_tx.specs.within.Reading.{stacks_at}
use Rattle.el_tx.proofs.reading_parts.stacks_of.Given as goal

abbrev pub invariant-loop-input : goal.invariant-loop-input
invariant-loop-input l = stacks_at l.full l.input-iterator.rest.items l.c ≡ stacks_at [] l.fn.inputs l.fn.c
