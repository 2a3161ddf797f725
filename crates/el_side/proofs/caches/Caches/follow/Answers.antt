use Rattle.std.proofs.Common.{◌∙◌, refl, ap, arith}
use Rattle.el_model.specs.Queries.{blocks_in}
use Rattle.el_levels.specs.Kept.{block_hashes}
use Rattle.el_side.proofs.Cached.{count_is, same_hashes}
use Rattle.el_side.proofs.caches.Caches.follow.Goals as goal

pub returns-clause-stand : goal.returns-clause-stand
returns-clause-stand g c = λ start chain stands kept.
    let count = count_is chain (g.G.Ledger.height c.args.ledger.now) (g.met.G.Ledger.height_is c.args.ledger.now chain stands) in
    let height = c.follow.ensures.quiet.stays.same_height in
    let top = c.height.ensures ∙ height in
    let few = c.count_of-self.ensures in
    let same = ap blocks_in top in
    record {
      levels = c.in_ok-follow.ensures.kept chain (block_hashes start) stands kept.levels (same_hashes c.args.self.now start chain kept);
      block = rw c.clear.ensures tt;
      front = refl;
      within = omega (arith, count, few, same);
    }
