use Rattle.el_subs.proofs.Noticed.{with_tip}
use Rattle.el_subs.proofs.notices.add_tip_line.Goals as goal

pub returns-in_ok-push-in-Ok-clause-notices : goal.returns-in_ok-push-in-Ok-clause-notices
returns-in_ok-push-in-Ok-clause-notices g c = λ told.
    with_tip _ _ c.in_ok-tip_line-in-Ok.field-0 c.in-Ok.tip c.in_ok-tip_line-in-Ok.ensures c.in_ok-push-in-Ok.ensures.items told
