use Rattle.std.proofs.Common.{inl, refl, ap, ◌∙◌}
use Rattle.el_replies.specs.Batches.{with_reply}
use Rattle.el_replies.specs.Losses.{AnswersOf}
use Rattle.el_replies.proofs.Losing.{so, none_lost, cut_result, done_sure, failed}
use Rattle.el_replies.proofs.Reading.{none_within}
use Rattle.el_replies.proofs.batch.answer_in_time.Goals as goal

pub returns-clause-answered : goal.returns-clause-answered
returns-clause-answered g c = λ side settled.
    let answers = AnswersOf g.A.Archive.tells side in
    so _ _ (λ x y h. done_sure c.add_reply.result _ _ _ _ (λ is. (
      c.in_ok-told.told,
      h,
      is ∙ ap (with_reply c.args.request.id c.in_ok-told.told) c.make_room.ensures.same,
    ))
    (cut_result answers c.args.request x y c.args.session.now c.answer_request.new.session c.in_ok-told.told h)
    c.add_reply.ensures.added c.add_reply.ensures.sure) (c.in_ok-told.ensures.answered side settled)

pub returns-in_err-told-clause-answered : goal.returns-in_err-told-clause-answered
returns-in_err-told-clause-answered g c = λ side settled.
    so _ _ (λ x y h. failed c.from_residual-in_err-told.result _ _ _ c.from_residual-in_err-told.ensures.1 h)
    (c.in_err-told.ensures.answered side settled)

pub returns-in_err-room-clause-answered : goal.returns-in_err-room-clause-answered
returns-in_err-room-clause-answered g c = λ side settled.
    none_lost _ _ _ (λ before. failed c.from_residual.result _ _ _ c.from_residual.ensures.1 (inl refl))

pub returns-in_err-room-clause-rows : goal.returns-in_err-room-clause-rows
returns-in_err-room-clause-rows g c = λ chain stood kept. none_within _ _ (inl refl)
