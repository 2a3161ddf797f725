use Rattle.std.proofs.Common.{inl, subst, refl, ℕ, List, Ok, Err}
use Rattle.el_calls.specs.Methods.{IsCalled}
use Rattle.el_side.specs.Beneath.{ghosts}
use Rattle.el_replies.specs.Spending.{asked_ghosts}
use Rattle.el_replies.proofs.Losing.{none_lost, with_refusal, failed}
use Rattle.el_replies.proofs.Reading.{none_within}
use Rattle.el_replies.proofs.requested.answer_request.Goals as goal

pub returns-in-Err-clause-answered : goal.returns-in-Err-clause-answered
returns-in-Err-clause-answered g c = λ side settled.
    let P : List ℕ → Type 0 = λ n. IsCalled n c.args.request.now.params (Err c.in-Err.refusal) in
    with_refusal (asked_ghosts (ghosts g.G.Ledger g.A.Archive) g.Y.Relay) g.A.Archive.tells side c.args.request.now _ _ _ _ _ c.in-Err.refusal
    (subst P c.as_str.ensures (rw c.in-Err.is at c.in_ok-called.ensures))

pub returns-in_err-called-clause-answered : goal.returns-in_err-called-clause-answered
returns-in_err-called-clause-answered g c = λ side settled.
    none_lost _ _ _ (λ before. failed c.from_residual.result _ _ _ c.from_residual.ensures.1 (inl refl))

pub answer_called-requires-clause-called : goal.answer_called-requires-clause-called
answer_called-requires-clause-called g c =
    let P : List ℕ → Type 0 = λ n. IsCalled n c.args.request.now.params (Ok c.in-Ok.call) in
    subst P c.as_str.ensures (rw c.in-Ok.is at c.in_ok-called.ensures)

pub returns-in-Err-clause-rows : goal.returns-in-Err-clause-rows
returns-in-Err-clause-rows g c = λ chain stood kept. none_within _ _ (inl refl)

pub returns-in_err-called-clause-rows : goal.returns-in_err-called-clause-rows
returns-in_err-called-clause-rows g c = λ chain stood kept. none_within _ _ (inl refl)
