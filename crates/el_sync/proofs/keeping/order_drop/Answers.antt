use Rattle.std.proofs.Common.{Ok, ap, inl, inr, refl, rules}
use Rattle.el_mempool.specs.Standing.{PoolState}
use Rattle.el_sync.proofs.Pooled.{absent_side, drops_side}
use Rattle.el_sync.proofs.keeping.order_drop.Goals as goal

pub returns-in_default-clause-drops : goal.returns-in_default-clause-drops
returns-in_default-clause-drops c = λ side stood.
    let e = c.in_ok-changed.ensures in
    absent_side c.args.pool.now c.drop_tx.new.self side c.args.id _ _ (search rules) stood (rw c.in_default.is at e.kept) (ap (λ (v : PoolState). v.entries) (e.absent (ap Ok c.in_default.is))) refl

pub returns-clause-drops : goal.returns-clause-drops
returns-clause-drops c = λ side stood.
    let e = c.in_ok-changed.ensures in
    let after = rw c.in-Some.is at (e.stands side.chain side.kept stood) in
    drops_side c.args.pool.now c.drop_tx.new.self side c.args.id _ _ stood (rw c.in-Some.is at e.kept) after refl

pub returns-clause-untouched : goal.returns-clause-untouched
returns-clause-untouched c = λ is. absurd (let bad = is in cc)

pub returns-in_default-clause-tells : goal.returns-in_default-clause-tells
returns-in_default-clause-tells c = inr refl

pub returns-clause-tells : goal.returns-clause-tells
returns-clause-tells c = inl refl
