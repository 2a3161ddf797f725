use Rattle.std.proofs.Common.{◌≡◌, ◌-◌}
use Rattle.el_tx.specs.within.Reading.{many_at, sized_at, items_at}
use Rattle.el_tx.proofs.reading_parts.items_of.Given as goal

abbrev pub invariant-loop : goal.invariant-loop
invariant-loop l = many_at (λ _. sized_at) l.items (l.count - l.counter) l.c ≡ items_at l.count l.fn.c
