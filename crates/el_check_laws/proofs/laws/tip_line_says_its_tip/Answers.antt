use Rattle.el_check_laws.proofs.TipLines.{tip_said}
use Rattle.el_check_laws.proofs.laws.tip_line_says_its_tip.Goals as goal

pub returns : goal.returns
returns c = λ h said size all says. tip_said c.node_line_says_one_thing.ensures h said (record { size = size; all = all }) says
