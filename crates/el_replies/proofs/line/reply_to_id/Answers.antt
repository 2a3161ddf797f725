use Rattle.el_replies.proofs.ErrorTexts.{error_reply}
use Rattle.el_replies.proofs.line.reply_to_id.Goals as goal

pub returns-in-Err-clause-reply : goal.returns-in-Err-clause-reply
returns-in-Err-clause-reply c =
    error_reply c.args.id c.args.room c.args.answered c.in-Err.refusal _ _ c.in-Err.is c.requires.room
    c.error_message-text.ensures c.is_closing-closes.ensures
