use Rattle.std.proofs.Common.{ap, rules}
use Rattle.el_mempool.specs.Standing.{PoolState}
use Rattle.el_pool.proofs.Fitting.{fit}
use Rattle.el_pool.proofs.pool.Pool.last_changes.Goals as goal

pub returns-clause-fit : goal.returns-clause-fit
returns-clause-fit c = λ chain kept stands.
    fit c.self.inside.table c.args.self.now.entries chain kept c.self.invariant.0 (ap (λ (v : PoolState). v.entries) c.self.view_is) stands (search rules)
