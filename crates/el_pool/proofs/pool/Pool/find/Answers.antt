use Rattle.std.proofs.Common.{ap}
use Rattle.std.specs.Prelude.{option_copied}
use Rattle.el_mempool.specs.Standing.{PoolState}
use Rattle.el_kept.proofs.Entries.{found_for}
use Rattle.el_pool.proofs.pool.Pool.find.Goals as goal

pub returns : goal.returns
returns c =
    found_for c.self.inside.table c.args.self.now.entries c.args.txid.now (option_copied c.kept_under.result) c.self.invariant.0 (ap (λ (v : PoolState). v.entries) c.self.view_is) c.kept_under.ensures
