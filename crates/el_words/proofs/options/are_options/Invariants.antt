use Rattle.std.proofs.Common.{length, map, ◌↔◌}
use Rattle.el_words.specs.Words.{texts}
use Rattle.el_words.specs.within.Reading.{GiveOptions}
use Rattle.el_words.proofs.options.are_options.Given as goal

abbrev pub invariant-loop-option : goal.invariant-loop-option
invariant-loop-option l = GiveOptions (map (λ o. o.now) l.options) (texts l.rest)
    ↔ GiveOptions (map (λ o. o.now) l.options) (texts l.fn.words)

abbrev pub decreases-loop-option : goal.decreases-loop-option
decreases-loop-option l = length l.rest
