use Rattle.el_mempool.specs.Sift.{sift}
use Rattle.el_sync.proofs.moving.settle.Goals as goal

pub returns-clause-sifted : goal.returns-clause-sifted
returns-clause-sifted g c = λ before chain kept stood stands beyond ended. c.in_ok-changed.ensures.sifted before chain kept stood stands beyond

pub returns-clause-followed : goal.returns-clause-followed
returns-clause-followed g c = λ start chain kept stands ended.
    c.in_ok-follow.ensures.stand start chain (c.in_ok-changed.ensures.quiet.stays.still_stands chain stands) kept

pub returns-clause-fees : goal.returns-clause-fees
returns-clause-fees g c = λ before chain kept stood stands beyond table.
    let e = c.in_ok-changed.ensures in
    let after = (e.sifted before chain kept stood stands beyond).0 in
    c.follow.ensures c.args.pool.now.entries c.after_move.new.self.entries table
    (rw c.last_changes.ensures.changes (e.fees before chain kept stood stands beyond)) (c.last_changes.ensures.fit chain (sift chain kept) after)
