use Rattle.el_calls.proofs.Greatest.{pinned}
use Rattle.el_calls.proofs.versions.greatest_shared.Goals as goal

pub returns-clause-greatest : goal.returns-clause-greatest
returns-clause-greatest c = (pinned c.args.least c.args.most c.first_within.result c.first_within.ensures).0

pub returns-clause-none : goal.returns-clause-none
returns-clause-none c = (pinned c.args.least c.args.most c.first_within.result c.first_within.ensures).1
