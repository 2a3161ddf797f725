use Rattle.std.proofs.Common.{arith}
use Rattle.el_side.proofs.Cached.{reached}
use Rattle.el_side.proofs.caches.Caches.prove.Goals as goal

-- over a ledger that stands for the chain the roots reach far enough
pub returns-in_err-follow-clause-caches : goal.returns-in_err-follow-clause-caches
returns-in_err-follow-clause-caches g c = λ chain stands kept.
    let few = c.reaches.ensures.few c.if-not-reaches.true in
    let far = reached c.args.self.now chain (g.G.Ledger.height c.args.ledger.now) c.args.upto (g.met.G.Ledger.height_is c.args.ledger.now chain stands) c.requires.within kept in
    absurd (omega (arith, few, far))

pub returns-in_err-follow-clause-rows : goal.returns-in_err-follow-clause-rows
returns-in_err-follow-clause-rows g c = λ chain stands kept.
    let few = c.reaches.ensures.few c.if-not-reaches.true in
    let far = reached c.args.self.now chain (g.G.Ledger.height c.args.ledger.now) c.args.upto (g.met.G.Ledger.height_is c.args.ledger.now chain stands) c.requires.within kept in
    absurd (omega (arith, few, far))
