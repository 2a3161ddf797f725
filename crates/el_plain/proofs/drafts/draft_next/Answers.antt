use Rattle.std.proofs.Common.{refl, ap, ◌∙◌, ◌++◌, append_assoc}
use Rattle.std.proofs.lemmas.Result.{err_from_is_err_and}
use Rattle.el_tx.specs.declared.types.Header.{Header}
use Rattle.el_chain.specs.Moves.{IsStop}
use Rattle.el_chain.proofs.CoinSteps.{err_passed}
use Rattle.el_chain.proofs.DraftSteps.{header_same}
use Rattle.el_plain.proofs.DraftSteps.{block_added}
use Rattle.el_plain.proofs.drafts.draft_next.Goals as goal

pub returns-in_err-block-clause-first_fault : goal.returns-in_err-block-clause-first_fault
returns-in_err-block-clause-first_fault c =
    err_passed c.from_residual.result (IsStop (c.args.blocks.now ++ c.args.fresh.now.items) c.args.node.now.hash c.args.text.now) c.in_err-block.field-0.0
    (err_from_is_err_and c.from_residual.result c.from_residual.ensures.1) (c.in_err-block.ensures.first_fault (c.args.blocks.now ++ c.args.fresh.now.items))

pub connect_for-requires-clause-names : goal.connect_for-requires-clause-names
connect_for-requires-clause-names c = rw c.as_slice.ensures.value
    (ap (λ (h : Header). h.previous) (header_same c.args.node.now c.args.text.now c.in_ok-block.block c.requires.node c.requires.of c.in_ok-block.ensures.read) ∙ c.requires.names)

pub returns-in_err-connect_for-clause-first_fault : goal.returns-in_err-connect_for-clause-first_fault
returns-in_err-connect_for-clause-first_fault c =
    err_passed c.from_residual-in_err-connect_for.result (IsStop (c.args.blocks.now ++ c.args.fresh.now.items) c.args.node.now.hash c.args.text.now) c.in_err-connect_for.field-0.0
    (err_from_is_err_and c.from_residual-in_err-connect_for.result c.from_residual-in_err-connect_for.ensures.1)
    (rw c.as_slice.ensures.value at c.in_err-connect_for.ensures.first_fault c.args.text.now c.in_ok-block.ensures.read)

pub returns-clause-drafted : goal.returns-clause-drafted
returns-clause-drafted c = rw (c.in_ok-push.ensures.items, ← append_assoc c.args.blocks.now c.args.fresh.now.items _)
    (rw c.as_slice.ensures.value at c.in_ok-connect_for.ensures.drafted c.args.node.now.place)

pub returns-clause-added : goal.returns-clause-added
returns-clause-added c = block_added c.args.blocks.now c.args.fresh.now.items c.push.new.self.items c.in_ok-block.block c.args.node.now.place c.args.node.now c.args.text.now
    c.in_ok-push.ensures.items refl c.requires.node c.requires.of c.in_ok-block.ensures.read (rw c.as_slice.ensures.value at c.in_ok-connect_for.ensures.next)
