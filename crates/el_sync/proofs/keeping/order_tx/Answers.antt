use Rattle.std.proofs.Common.{refl}
use Rattle.el_side.specs.Side.{taken}
use Rattle.el_sync.proofs.Pooled.{joins_side, refused_told}
use Rattle.el_sync.proofs.keeping.order_tx.Goals as goal

pub returns-in-Err-clause-adds : goal.returns-in-Err-clause-adds
returns-in-Err-clause-adds g c = λ side stands stood limits.
    let e = c.in-Err.ensures in
    let r = c.refuse_tx.ensures in
    refused_told c.refuse_tx.result c.args.pool.now c.add.new.self side c.args.bytes.now c.in-Err.fault stood e.same (rw limits at (e.refused side.chain side.kept stood stands))
    r.no_disk r.no_memory r.told r.form r.none

pub returns-in-Ok-clause-adds : goal.returns-in-Ok-clause-adds
returns-in-Ok-clause-adds g c = λ side stands stood limits.
    joins_side c.add.new.self side c.args.bytes.now _ c.in-Ok.id _ (rw limits at (c.in-Ok.ensures.joined side.chain side.kept stood stands)) refl

pub returns-in-Ok-clause-untouched : goal.returns-in-Ok-clause-untouched
returns-in-Ok-clause-untouched g c = λ is. absurd (let bad = is in cc)

pub returns-in-Ok-clause-tells : goal.returns-in-Ok-clause-tells
returns-in-Ok-clause-tells g c = taken c.in-Ok.id refl
