use Rattle.std.proofs.Common.{sym, subst}
use Rattle.el_mempool.specs.Standing.{PoolState, KeptStandFor}
use Rattle.el_pool.proofs.pool.Pool.outs.Goals as goal

pub returns : goal.returns
returns c = λ chain kept h.
    c.outs_at.ensures chain kept (subst (λ (v : PoolState). KeptStandFor v.entries chain kept) (sym c.self.view_is) h)
