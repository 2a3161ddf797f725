use Rattle.std.proofs.Common.{arith}
use Rattle.el_side.proofs.Cached.{count_is, taken_back}
use Rattle.el_side.proofs.caches.Caches.take_back.Goals as goal

pub returns : goal.returns
returns c = λ start chain height kept.
    let count = count_is chain c.args.height height in
    taken_back c.args.self.now start chain c.args.back c.min-self.result
    (omega (arith, count, c.min-self.ensures, c.saturating_sub.ensures, c.count_of.ensures)) (omega (arith, c.min-self.ensures)) kept
