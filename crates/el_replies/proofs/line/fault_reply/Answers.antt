use Rattle.el_replies.proofs.ErrorTexts.{says_error}
use Rattle.el_replies.proofs.line.fault_reply.Goals as goal

pub returns : goal.returns
returns c = says_error c.args.id _ c.args.refusal _ c.in_ok-room.ensures c.error_message-text.ensures
