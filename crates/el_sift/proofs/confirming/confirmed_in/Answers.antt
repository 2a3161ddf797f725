use Rattle.el_kept.specs.Tables.{undropped}
use Rattle.el_sift.proofs.Known.{if_told}
use Rattle.el_sift.proofs.confirming.confirmed_in.Goals as goal

pub returns-clause-told : goal.returns-clause-told
returns-clause-told g c = λ chain stood.
    if_told chain c.confirmed_among.result c.as_slice.result.now c.in_ok-ids.ids.items (undropped c.args.table.now.kept.entries) c.as_slice.ensures.value (λ x. c.in_ok-ids.ensures x)
    (λ x. c.confirmed_among.ensures.found chain x stood)
