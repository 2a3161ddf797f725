use Rattle.el_core.proofs.Covered.{both_where_ok}
use Rattle.el_core.proofs.touching.touch.Goals as goal

pub returns-clause-covers : goal.returns-clause-covers
returns-clause-covers c = both_where_ok c.add_held-2.result c.args.clients.now c.args.touched.now c.add_held.new.touched c.add_held-2.new.touched c.args.moved.now c.args.changed.now c.in_ok-add_held.ensures.covers c.add_held-2.ensures.covers
