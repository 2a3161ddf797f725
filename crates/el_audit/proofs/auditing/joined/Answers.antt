use Rattle.std.proofs.Common.{rules, ℕ, ◌<◌, ◌∷◌, sym, subst, ap, ◌∙◌}
use Rattle.std.proofs.lemmas.List.{nil_from_length}
use Rattle.el_audit.proofs.Pieces.{joining_begins, joining_more, joining_stops, joining_ends}
use Rattle.el_audit.proofs.auditing.joined.Goals as goal

pub loop-piece-init : goal.loop-piece-init
loop-piece-init c =
    let len = c.args.pieces.ok.0 in
    rw c.into_iter-piece-iterator.ensures.into_iter_gives.0
    (joining_begins c.args.chain.now c.args.size c.args.claims.now c.args.pieces.items c.requires.some (sym len ∙ c.requires.count)
    (λ n d lt. c.requires.each n d (subst (λ (k : ℕ). n < k) (sym len) lt)))

pub returns-in-Differs : goal.returns-in-Differs
returns-in-Differs c =
    joining_stops c.args.chain.now c.args.size c.args.claims.now c.loop-piece.piece-iterator.rest.items c.next.new.self.rest.items c.in_ok-report.report _ _ _
    (c.in-Some.ensures.steps.0 ∙ ap (λ r. r ∷ c.next.new.self.rest.items) c.in_ok-report.was) c.in-Differs.is c.loop-piece.invariant

pub loop-piece-preserved : goal.loop-piece-preserved
loop-piece-preserved c =
    joining_more c.args.chain.now c.args.size c.args.claims.now c.loop-piece.piece-iterator.rest.items c.next.new.self.rest.items c.in_ok-report.report _
    (c.in-Some.ensures.steps.0 ∙ ap (λ r. r ∷ c.next.new.self.rest.items) c.in_ok-report.was) c.in-Same.is c.loop-piece.invariant

pub returns : goal.returns
returns c =
    let none = nil_from_length c.loop-piece.piece-iterator.rest.items (sym c.loop-piece.piece-iterator.rest.ok.0 ∙ c.in-None.ensures.steps.0) in
    (joining_ends c.args.chain.now c.args.size c.args.claims.now c.loop-piece.piece-iterator.rest.items none c.loop-piece.invariant, search rules)
