use Rattle.std.proofs.Common.{Some, ap}
use Rattle.el_index.proofs.Targets.{last_named}
use Rattle.el_index.proofs.going.hash_after.Goals as goal

pub returns-in-len1-up-clause-last : goal.returns-in-len1-up-clause-last
returns-in-len1-up-clause-last g c = λ some. ap Some (last_named c.args.nodes.now _ some)

pub returns-in-Ok-clause-tip : goal.returns-in-Ok-clause-tip
returns-in-Ok-clause-tip g c = λ heads chain told stand none. c.in-Ok.ensures.last heads chain told stand
