use Rattle.std.proofs.Common.{sym, ◌∙◌}
use Rattle.el_side.specs.Side.{refused}
use Rattle.el_sync.proofs.keeping.refuse_tx.Goals as goal

pub returns-in-Some-clause-tells : goal.returns-in-Some-clause-tells
returns-in-Some-clause-tells c = refused c.in_ok-id.id c.args.fault (sym c.pool_refused.ensures ∙ c.in-Some.is)
