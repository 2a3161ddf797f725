use Rattle.std.proofs.Common.{refl, inr, ◌⊎◌, ◌≡◌, arith}
use Rattle.std.proofs.lemmas.Result.{err_from_is_err_and}
use Rattle.el_chain.specs.declared.moves.MoveFault.TheVariants as stop
use Rattle.el_chain.specs.Moves.{FaultInAt}
use Rattle.el_chain.proofs.CoinSteps.{err_passed}
use Rattle.el_plain.proofs.DraftSteps.{left_of, drafting_more, drafting_ends}
use Rattle.el_chain.proofs.DraftSteps.{same_length}
use Rattle.el_chain.proofs.MoveSteps.{within, next_is, stops_at}
use Rattle.el_plain.proofs.drafts.draft_all.Goals as goal

pub bounds-texts-index : goal.bounds-texts-index
bounds-texts-index c = within c.args.nodes.now c.args.texts.now c.loop-index.index (left_of c.loop-index.invariant) c.loop-index-test.true

pub draft_next-requires-clause-of : goal.draft_next-requires-clause-of
draft_next-requires-clause-of c = rw c.as_slice-text.ensures
    (let n = next_is c.args.nodes.now c.args.texts.now c.loop-index.index _ _ c.index-texts-index.result (left_of c.loop-index.invariant) c.loop-index-test.true refl c.index-texts-index.is in n.of)

pub returns-in_err-draft_next-clause-first_fault : goal.returns-in_err-draft_next-clause-first_fault
returns-in_err-draft_next-clause-first_fault c =
    let n = next_is c.args.nodes.now c.args.texts.now c.loop-index.index _ _ c.index-texts-index.result (left_of c.loop-index.invariant) c.loop-index-test.true refl c.index-texts-index.is in
    err_passed c.from_residual.result (λ e. (e ≡ stop.Memory) ⊎ FaultInAt c.args.blocks.now c.args.nodes.now c.args.texts.now e) c.in_err-draft_next.field-0.0
    (err_from_is_err_and c.from_residual.result c.from_residual.ensures.1)
    (inr (stops_at c.args.blocks.now c.args.nodes.now c.args.texts.now c.loop-index.index c.loop-index.fresh.items _ _ _ c.loop-index.invariant.next n
    (rw c.as_slice-text.ensures at c.in_err-draft_next.ensures.first_fault)))

pub loop-index-preserved : goal.loop-index-preserved
loop-index-preserved c =
    let n = next_is c.args.nodes.now c.args.texts.now c.loop-index.index _ _ c.index-texts-index.result (left_of c.loop-index.invariant) c.loop-index-test.true refl c.index-texts-index.is in
    drafting_more c.args.base.now c.args.blocks.now c.args.nodes.now c.args.texts.now c.loop-index.index c.loop-index.changes c.draft_next.new.changes c.loop-index.tally c.draft_next.new.tally c.loop-index.fresh.items
    c.draft_next.new.fresh.items _ _ c.loop-index.invariant n c.in_ok-draft_next.ensures.drafted (rw c.as_slice-text.ensures at c.in_ok-draft_next.ensures.added)

pub returns-clause-next : goal.returns-clause-next
returns-clause-next c =
    drafting_ends c.args.base.now c.args.blocks.now c.args.nodes.now c.args.texts.now c.loop-index.index c.loop-index.changes c.loop-index.tally c.loop-index.fresh.items c.loop-index.invariant
    (let t = c.loop-index-test.false in omega arith) (same_length c.args.nodes.now c.args.texts.now c.requires.of)
