use Rattle.std.proofs.Common.{◌≡◌, ◌++◌, List, ℕ, length, map}
use Rattle.std.specs.Vec.Iter.{into_iter_items, into_iter_len}
use Rattle.el_core.specs.Turn.{messages_of}
use Rattle.el_core.proofs.telling.addressed.Given as goal

abbrev pub invariant-loop-line : goal.invariant-loop-line
invariant-loop-line l = (l.yielded ++ into_iter_items l.line-iterator ≡ into_iter_items l.initial.line-iterator)
    × (messages_of l.sends.items ≡ map (λ (t : List ℕ). record { peer = l.p; text = t }) l.yielded)
    × (into_iter_len l.line-iterator ≡ length (into_iter_items l.line-iterator))
