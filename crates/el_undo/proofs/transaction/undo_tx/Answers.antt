use Rattle.std.proofs.Common.{◌≡◌, ◌-◌, ℕ, length, subst, arith, OnOk}
use Rattle.el_rows.specs.Transaction.{with_edits}
use Rattle.el_tables.specs.Disconnecting.{times, take_back_output, unspend, take_back_entries}
use Rattle.el_tables.specs.Lists.{Lists}
use Rattle.el_schema.specs.Rows.{Hold}
use Rattle.el_schema.proofs.Held.{count_txs}
use Rattle.el_undo.specs.within.Undone.{FitAfter}
use Rattle.el_undo.proofs.Whole.{still_numbered, undone}
use Rattle.el_undo.proofs.transaction.undo_tx.Goals as goal

pub returns-clause-lists : goal.returns-clause-lists
returns-clause-lists g c counts bs l can told hold some outs ins =
    let shown = with_edits {G = g.R.Rows} c.args.t.now in
    let row = c.args.row.now in
    let m = times row.outs take_back_output l in
    let n = times row.ins unspend m in
    let one = c.in_ok-undo_outputs.ensures.lists counts bs l told hold some (subst (λ (k : ℕ). FitAfter k take_back_output l) outs can.outputs) in
    let two = c.in_ok-undo_inputs.ensures.lists counts bs m told one
    (subst (λ (k : ℕ). FitAfter row.ins unspend (times k take_back_output l)) outs (subst (λ (k : ℕ). FitAfter k unspend (times can.tx.outs take_back_output l)) ins can.inputs)) in
    let three = c.in_ok-undo_entries.ensures.lists counts bs n told two (still_numbered row.ins row.outs l can.numbered) in
    let number = c.saturating_sub-number.result in
    let many = count_txs counts bs l shown hold in
    let at : number ≡ length l.txs - 1 = omega (arith, many, c.count.ensures.count, c.saturating_sub-number.ensures) in
    let four = c.take_back_tx.ensures.lists counts bs (take_back_entries (length n.entries) number n) told three in
    subst (λ (x : Lists). OnOk c.take_back_tx.result (Hold counts bs x (with_edits {G = g.R.Rows} c.take_back_tx.new.t))) (undone l can.tx row.outs row.ins number can.is_last outs ins at) four
