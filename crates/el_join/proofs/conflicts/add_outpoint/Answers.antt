use Rattle.std.proofs.Common.{◌∙◌, ap, cond, true}
use Rattle.std.specs.List.{list_any}
use Rattle.el_tx.specs.Hashing.{same_outpoint}
use Rattle.el_kept.proofs.Slots.{outpoint_turned}
use Rattle.el_join.proofs.conflicts.add_outpoint.Goals as goal

pub returns : goal.returns
returns c = λ o.
    c.in_ok-insert.ensures.updates.0 o
    ∙ ap (λ b. cond b true (list_any (same_outpoint o) c.args.later.now.keys)) (outpoint_turned c.args.outpoint o)
