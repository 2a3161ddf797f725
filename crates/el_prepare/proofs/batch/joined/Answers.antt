use Rattle.std.proofs.Common.{ℕ, ◌<◌, ◌∷◌, sym, subst, ap, ◌∙◌}
use Rattle.el_prepare.proofs.BatchLemmas.{joining_begins, joining_stops_if, joining_more_if}
use Rattle.el_prepare.proofs.batch.joined.Goals as goal

pub loop-piece-init : goal.loop-piece-init
loop-piece-init c =
    let len = c.args.pieces.ok.0 in
    rw (c.in_ok-list.ensures.items, c.into_iter-piece-iterator.ensures.into_iter_gives.0)
    (joining_begins (λ v. v.0.items) (λ v. v.1) c.args.size c.args.texts.now c.args.pieces.items c.requires.some (sym len ∙ c.requires.count)
    (λ n d lt. c.requires.each n d (subst (λ (k : ℕ). n < k) (sym len) lt)))

pub returns-then-is_some : goal.returns-then-is_some
returns-then-is_some c =
    rw c.in_ok-append.ensures.items
    (joining_stops_if (λ v. v.0.items) (λ v. v.1) c.args.size c.args.texts.now c.loop-piece.list.items c.loop-piece.piece-iterator.rest.items c.next.new.self.rest.items (c.in_ok-blocks.blocks, c.in_ok-blocks.fault)
    (c.in-Some.ensures.steps.0 ∙ ap (λ r. r ∷ c.next.new.self.rest.items) c.in_ok-blocks.was) (sym c.is_some.ensures ∙ c.if-is_some.true) c.loop-piece.invariant)

pub loop-piece-preserved : goal.loop-piece-preserved
loop-piece-preserved c =
    rw c.in_ok-append.ensures.items
    (joining_more_if (λ v. v.0.items) (λ v. v.1) c.args.size c.args.texts.now c.loop-piece.list.items c.loop-piece.piece-iterator.rest.items c.next.new.self.rest.items (c.in_ok-blocks.blocks, c.in_ok-blocks.fault)
    (c.in-Some.ensures.steps.0 ∙ ap (λ r. r ∷ c.next.new.self.rest.items) c.in_ok-blocks.was) (sym c.is_some.ensures ∙ c.if-is_some.false) c.loop-piece.invariant)
