use Rattle.el_replies.specs.Losses.{AnswersOf}
use Rattle.el_replies.specs.within.Gathered.{replies_of}
use Rattle.el_replies.proofs.LineEnds.{batch_said, batch_cut}
use Rattle.el_replies.proofs.Losing.{so, failed}
use Rattle.el_replies.proofs.line.batch_reply.Goals as goal

pub returns-clause-answered : goal.returns-clause-answered
returns-clause-answered g c = λ side settled.
    let answers = AnswersOf g.A.Archive.tells side in
    so _ _ (λ x y h. batch_said answers c.args.elements x y c.args.session.now c.answer_items.new.session _
    (replies_of c.answer_items.new.replies) _ c.no_replies-replies.ensures.none c.batch_message_of-text.ensures h)
    (c.in_ok-answer_items.ensures.answered side settled)

pub returns-in_err-answer_items-clause-answered : goal.returns-in_err-answer_items-clause-answered
returns-in_err-answer_items-clause-answered g c = λ side settled.
    let answers = AnswersOf g.A.Archive.tells side in
    so _ _ (λ x y h. failed c.from_residual.result _ _ _ c.from_residual.ensures.1
    (batch_cut answers c.args.elements x y c.args.session.now _ c.no_replies-replies.ensures.none h))
    (c.in_err-answer_items.ensures.answered side settled)
