use Rattle.std.proofs.Common.{refl}
use Rattle.el_loop.proofs.starting.serve_from.Goals as goal

pub returns-clause-ends : goal.returns-clause-ends
returns-clause-ends g c = λ sure relays chain stood kept desk_is.
    let r = c.run-end.ensures.ends _
    (c.new-server.ensures.stands sure relays chain (g.A.Archive.bytes c.args.archive.now) stood kept c.new-pool.ensures.entries c.new-fees.ensures desk_is)
    refl refl in
    rw c.into_ledger.ensures (rw (c.new-server.ensures.ledger, c.new-pool.ensures.limits) at r)

pub returns-clause-causes : goal.returns-clause-causes
returns-clause-causes g c =
    rw c.into_ledger.ensures (rw c.new-server.ensures.ledger at c.run-end.ensures.causes)

pub returns-clause-beside : goal.returns-clause-beside
returns-clause-beside g c = rw c.into_ledger.ensures (rw c.new-server.ensures.ledger at c.run-end.ensures.beside)
