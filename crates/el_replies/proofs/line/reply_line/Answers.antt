use Rattle.std.proofs.Common.{◌≡◌, Ok, inl, refl}
use Rattle.el_json.specs.Lines.{line_says}
use Rattle.el_json.specs.declared.request.Envelope.TheVariants.{One, Batch}
use Rattle.el_replies.specs.Losses.{AnswersOf}
use Rattle.el_replies.proofs.LineEnds.{of_said, no_json, no_request}
use Rattle.el_replies.proofs.Losing.{so, none_lost}
use Rattle.el_replies.proofs.Reading.{of_line, no_line}
use Rattle.el_replies.proofs.line.reply_line.Goals as goal

pub returns-in-Ok-One-clause-answered : goal.returns-in-Ok-One-clause-answered
returns-in-Ok-One-clause-answered g c = λ side settled.
    let answers = AnswersOf g.A.Archive.tells side in
    let says = c.in-Ok-One.ensures.says in
    let is = c.in-Ok-One.field-0-is in
    let said : line_says c.args.line.now ≡ Ok (One c.in-Ok-One.request) = cc in
    so _ _ (λ x y h. of_said answers c.args.line.now (Ok (One c.in-Ok-One.request)) x y c.args.session.now
    c.one_reply.new.session c.one_reply.result said h)
    (c.one_reply.ensures.answered side settled)

pub returns-in-Ok-Batch-clause-answered : goal.returns-in-Ok-Batch-clause-answered
returns-in-Ok-Batch-clause-answered g c = λ side settled.
    let answers = AnswersOf g.A.Archive.tells side in
    let says = c.in-Ok-Batch.ensures.says in
    let is = c.in-Ok-Batch.field-0-is in
    let said : line_says c.args.line.now ≡ Ok (Batch c.in-Ok-Batch.elements) = cc in
    so _ _ (λ x y h. of_said answers c.args.line.now (Ok (Batch c.in-Ok-Batch.elements)) x y
    c.args.session.now c.batch_reply.new.session c.batch_reply.result said h)
    (c.batch_reply.ensures.answered side settled)

pub returns-in-Ok-One-clause-rows : goal.returns-in-Ok-One-clause-rows
returns-in-Ok-One-clause-rows g c = λ chain stood kept.
    let says = c.in-Ok-One.ensures.says in
    let is = c.in-Ok-One.field-0-is in
    let said : line_says c.args.line.now ≡ Ok (One c.in-Ok-One.request) = cc in
    of_line chain _ c.args.line.now _ _ _ said (c.one_reply.ensures.rows chain stood kept)

pub returns-in-Ok-Batch-clause-rows : goal.returns-in-Ok-Batch-clause-rows
returns-in-Ok-Batch-clause-rows g c = λ chain stood kept.
    let says = c.in-Ok-Batch.ensures.says in
    let is = c.in-Ok-Batch.field-0-is in
    let said : line_says c.args.line.now ≡ Ok (Batch c.in-Ok-Batch.elements) = cc in
    of_line chain _ c.args.line.now _ _ _ said (c.batch_reply.ensures.rows chain stood kept)

pub returns-in-Err-Parse-clause-rows : goal.returns-in-Err-Parse-clause-rows
returns-in-Err-Parse-clause-rows g c = λ chain stood kept. no_line chain _ (line_says c.args.line.now) _

pub returns-in-Err-Invalid-clause-rows : goal.returns-in-Err-Invalid-clause-rows
returns-in-Err-Invalid-clause-rows g c = λ chain stood kept. no_line chain _ (line_says c.args.line.now) _

pub returns-in-Err-Memory-clause-rows : goal.returns-in-Err-Memory-clause-rows
returns-in-Err-Memory-clause-rows g c = λ chain stood kept. no_line chain _ (line_says c.args.line.now) _

pub returns-in-Err-Parse-clause-answered : goal.returns-in-Err-Parse-clause-answered
returns-in-Err-Parse-clause-answered g c = λ side settled.
    none_lost _ _ _ (λ before. no_json (AnswersOf g.A.Archive.tells side) c.args.line.now before c.args.session.now c.fault_reply.result
    (rw c.in-Err-Parse.field-0-is at c.in-Err-Parse.ensures.says) (rw c.null.ensures at c.fault_reply.ensures))

pub returns-in-Err-Invalid-clause-answered : goal.returns-in-Err-Invalid-clause-answered
returns-in-Err-Invalid-clause-answered g c = λ side settled.
    none_lost _ _ _ (λ before. no_request (AnswersOf g.A.Archive.tells side) c.args.line.now c.in-Err-Invalid.id before c.args.session.now
    c.fault_reply-in-Err-Invalid.result (rw c.in-Err-Invalid.field-0-is at c.in-Err-Invalid.ensures.says) c.fault_reply-in-Err-Invalid.ensures)

pub returns-in-Err-Memory-clause-answered : goal.returns-in-Err-Memory-clause-answered
returns-in-Err-Memory-clause-answered g c = λ side settled. none_lost _ _ _ (λ before. inl refl)
