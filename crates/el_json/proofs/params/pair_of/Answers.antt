use Rattle.el_json.proofs.Pairs.{no_pair}
use Rattle.el_json.proofs.params.pair_of.Goals as goal

pub returns-then-list-ne2 : goal.returns-then-list-ne2
returns-then-list-ne2 c = no_pair c.args.list.now c.if-list-ne2.true
