use Rattle.el_sift.proofs.Blocks.{if_told_since}
use Rattle.el_sift.proofs.confirming.confirmed_since.Goals as goal

pub returns-clause-told : goal.returns-clause-told
returns-clause-told g c = λ before chain all over keeps stood.
    if_told_since before chain c.args.reach.same c.args.table.now all c.txids_from.result over keeps.blocks (λ x. c.txids_from.ensures.found chain x stood)
