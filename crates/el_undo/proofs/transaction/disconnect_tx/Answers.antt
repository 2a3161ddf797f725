use Rattle.std.proofs.Common.{sym, ap, subst}
use Rattle.el_tables.specs.Lists.{ListedTx}
use Rattle.el_schema.specs.Rows.{Hold}
use Rattle.el_undo.proofs.Whole.{row_is, none_is_not}
use Rattle.el_undo.proofs.transaction.disconnect_tx.Goals as goal

pub returns-in-Ok-None-clause-lists : goal.returns-in-Ok-None-clause-lists
returns-in-Ok-None-clause-lists g c counts bs l can told hold some =
    let found = rw c.in-Ok-None.field-0-is at (c.in-Ok-None.ensures.last counts bs l told hold) in
    none_is_not can.tx l _ found can.is_last

pub returns-in-Ok-Some-clause-lists : goal.returns-in-Ok-Some-clause-lists
returns-in-Ok-Some-clause-lists g c counts bs l can told hold some =
    let found = rw c.in-Ok-Some.field-0-is at (c.in-Ok-Some.ensures.last counts bs l told hold) in
    let is = row_is c.in-Ok-Some.row can.tx l found can.is_last in
    let before = subst (λ T. Hold counts bs l T) (sym c.last_tx.ensures.read.tables) hold in
    c.undo_tx.ensures.lists counts bs l can told before some (sym (ap (λ (t : ListedTx). t.outs) is)) (sym (ap (λ (t : ListedTx). t.ins) is))
