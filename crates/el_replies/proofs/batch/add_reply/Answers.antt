use Rattle.el_replies.proofs.ErrorTexts.{with_error, with_result}
use Rattle.el_replies.proofs.batch.add_reply.Goals as goal

pub returns-in-Ok-clause-added : goal.returns-in-Ok-clause-added
returns-in-Ok-clause-added c =
    with_result c.add_result.result c.args.id c.args.answered c.in-Ok.found _ _ _ c.in-Ok.is c.note.ensures.noted
    c.add_result.ensures.added

pub returns-in-Err-clause-added : goal.returns-in-Err-clause-added
returns-in-Err-clause-added c =
    with_error c.args.id c.args.room c.args.answered c.in-Err.refusal _ _ _ c.in-Err.is c.requires.room
    c.note.ensures.noted c.add_error.ensures.added
