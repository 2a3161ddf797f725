use Rattle.std.proofs.Common.{◌≡◌, ◌∷◌, [], ℕ, List, length, sym, ap, subst, ◌∙◌, append_assoc, append-nil, arith}
use Rattle.std.specs.Vec.Iter.{into_iter_items}
use Rattle.el_core.specs.Turn.{messages_of}
use Rattle.el_core.proofs.Messages.{one_more_message, nothing_left, to_peer}
use Rattle.el_core.proofs.telling.addressed.Goals as goal

pub loop-line-preserved : goal.loop-line-preserved
loop-line-preserved c =
    let at = c.loop-line in
    let x = c.in-Some.line in
    let steps : into_iter_items at.line-iterator ≡ x ∷ into_iter_items c.next.new.self = c.in-Some.ensures.steps.0 in (
      append_assoc at.yielded (x ∷ []) _ ∙ rw (← steps) at.invariant.0,
      rw c.in_ok-push.ensures.items (one_more_message c.args.p at.sends.items at.yielded x at.invariant.1),
      let was = at.invariant.2 in
          let gone = c.in-Some.ensures.steps.1 in
          let short = ap length steps in
          omega arith,
    )

pub returns : goal.returns
returns c =
    let at = c.loop-line in
    let none = c.in-None.ensures.steps in
    let empty : into_iter_items at.line-iterator ≡ [] = nothing_left _ (sym at.invariant.2 ∙ none.0) in
    let all = sym (append-nil at.yielded) ∙ rw empty at at.invariant.0 ∙ c.into_iter-line-iterator.ensures.into_iter_gives.0 in
    rw c.from_vec.ensures (subst (λ (l : List (List ℕ)). messages_of at.sends.items ≡ to_peer c.args.p l) all at.invariant.1)
