use Rattle.el_plain.proofs.BackMoves.{none_back}
use Rattle.el_plain.proofs.moving.move_all.Goals as goal

pub returns-then-back-eq0-clause-ok : goal.returns-then-back-eq0-clause-ok
returns-then-back-eq0-clause-ok c = none_back c.args.back c.args.blocks.now.items c.add_all.new.blocks.items c.args.nodes.now c.args.texts.now c.in_ok-touched.touched c.if-back-eq0.true c.in_ok-touched.ensures.ok
