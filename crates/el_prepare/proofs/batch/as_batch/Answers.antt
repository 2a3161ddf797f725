use Rattle.el_prepare.proofs.BatchLemmas.{one_stops}
use Rattle.el_prepare.proofs.batch.as_batch.Goals as goal

pub returns-in-Err : goal.returns-in-Err
returns-in-Err c =
    one_stops (λ v. v.0.items) (λ v. v.1) c.args.text.now c.in-Err.fault c.stopped.result (rw c.in-Err.is at c.requires.fault) (rw c.new.ensures.items at c.stopped.ensures)
