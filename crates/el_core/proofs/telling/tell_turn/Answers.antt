use Rattle.std.proofs.Common.{Some, ap}
use Rattle.el_side.proofs.Deeds.{rose_still}
use Rattle.el_side.proofs.Settled.{by_sure}
use Rattle.el_core.specs.within.Clients.{tells, unsure}
use Rattle.el_core.proofs.telling.tell_turn.Goals as goal

pub returns-in-Ok-clause-turn : goal.returns-in-Ok-clause-turn
returns-in-Ok-clause-turn g c = λ side at.
    let e = c.in-Ok.ensures in
    let rose = rose_still _ _ e.cause.uncounted in
    by_sure side _ (λ sure. tells sure (e.told side sure at) (ap Some (e.marked side sure at)) rose) (λ un. unsure un e.some rose)
