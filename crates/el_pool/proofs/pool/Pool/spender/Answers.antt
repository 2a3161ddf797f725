use Rattle.std.proofs.Common.{◌∙◌, sym, subst}
use Rattle.el_mempool.specs.Standing.{PoolState, KeptStandFor}
use Rattle.el_kept.proofs.Lookups.{takers_are, is_over}
use Rattle.el_pool.proofs.pool.Pool.spender.Goals as goal

pub returns : goal.returns
returns c = λ chain kept h.
    c.taker_in.ensures ∙ takers_are c.self.inside.table chain kept c.args.outpoint.now
    (is_over c.self.inside.table chain kept c.self.invariant.0 (subst (λ (v : PoolState). KeptStandFor v.entries chain kept) (sym c.self.view_is) h))
