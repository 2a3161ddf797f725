use Rattle.std.proofs.Common.{◌≡◌, inl, inr, sym, refl, Some}
use Rattle.el_calls.specs.Methods.{raw_tx_of}
use Rattle.el_side.specs.Beneath.{ghosts}
use Rattle.el_replies.specs.Spending.{asked_ghosts}
use Rattle.el_replies.proofs.Losing.{with_losses, with_broadcast}
use Rattle.el_replies.proofs.Reading.{none_within}
use Rattle.el_replies.proofs.requested.answer_called.Goals as goal

pub returns-in-Some-clause-answered : goal.returns-in-Some-clause-answered
returns-in-Some-clause-answered g c = λ side settled.
    let raw : raw_tx_of c.args.call.now ≡ Some c.in-Some.bytes.now = rw c.in-Some.is at (sym c.raw_tx.ensures) in
    let t = c.broadcast.ensures.told in
    with_broadcast (asked_ghosts (ghosts g.G.Ledger g.A.Archive) g.Y.Relay) g.A.Archive.tells side c.args.request.now _ _ _ _ _ _ c.args.call.now c.in-Some.bytes.now _ t.0 c.broadcast.result
    c.requires.called raw t.1 t.2

pub returns-in-None-clause-answered : goal.returns-in-None-clause-answered
returns-in-None-clause-answered g c = λ side settled.
    with_losses (asked_ghosts (ghosts g.G.Ledger g.A.Archive) g.Y.Relay) g.A.Archive.tells side c.args.request.now _ _ _ _ _ _ c.args.call.now _ _ c.answer_call.result
    c.requires.called (rw c.in-None.is at (sym c.raw_tx.ensures)) (c.answer_call.ensures.answered side settled)

pub returns-in-Some-clause-rows : goal.returns-in-Some-clause-rows
returns-in-Some-clause-rows g c = λ chain stood kept. none_within _ _ (inl refl)

pub returns-in-None-clause-rows : goal.returns-in-None-clause-rows
returns-in-None-clause-rows g c = λ chain stood kept.
    (_, inr (c.args.call.now, c.requires.called, refl), c.answer_call.ensures.rows chain stood kept)
