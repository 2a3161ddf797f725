use Rattle.el_subs.proofs.Noticed.{with_statuses}
use Rattle.el_subs.proofs.notices.notify.Goals.{then-session+then-ne+in_ok-add_tip_line, else-session}
use Rattle.el_subs.proofs.notices.notify.Goals as goal

pub returns-clause-notices : goal.returns-clause-notices
returns-clause-notices g c =
    with_statuses _ _ _ c.in_ok-add_script_lines.ensures (elim c.if-session.branch [
      | then-session+then-ne+in_ok-add_tip_line w ↦ rw w.lines-is (w.in_ok-add_tip_line.ensures.notices (rw c.new-lines.ensures.items tt))
      | else-session w ↦ rw (w.lines-is, c.new-lines.ensures.items) tt
    ])
