use Rattle.std.proofs.Common.{sym, subst}
use Rattle.std.specs.Result.{IfErr}
use Rattle.el_mempool.specs.Standing.{PoolState, KeptStandFor}
use Rattle.el_join.proofs.Refusing.{Refused}
use Rattle.el_pool.proofs.pool.Pool.add.Goals as goal

pub returns-clause-refused : goal.returns-clause-refused
returns-clause-refused g c = λ chain kept h stood.
    subst (λ (v : PoolState). IfErr c.add_to.result (Refused v.limits chain kept c.args.bytes.now)) c.self.view_is
    (c.add_to.ensures.refused chain kept (subst (λ (v : PoolState). KeptStandFor v.entries chain kept) (sym c.self.view_is) h) stood)
