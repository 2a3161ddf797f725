use Rattle.std.proofs.Common.{◌<◌, ◌+◌, ◌^◌, ℕ, length, min, Err, refl, ap, sym, subst, ◌∙◌, arith}
use Rattle.std.proofs.lemmas.Result.{err_from_is_err_and}
use Rattle.el_chain.proofs.CoinSteps.{err_passed}
use Rattle.el_chain.specs.declared.fault.ConnectFault.{ConnectFault}
use Rattle.el_row_formats.specs.Tables as held
use Rattle.el_row_formats.specs.declared.table.Table.TheVariants as table
use Rattle.el_rows.specs.Transaction.{with_edits}
use Rattle.el_tables.specs.Lists.{add_entry, add_output, unspent_sum}
use Rattle.el_tables.proofs.Sums.{balances_fit}
use Rattle.el_schema.specs.Rows.{Hold}
use Rattle.el_connect.proofs.LoopLemmas.{same_maker}
use Rattle.el_connect.proofs.TouchLemmas.{touch_refused, room_funded}
use Rattle.el_connect.proofs.StepLemmas.{entered_number, funded_at_most, output_reached}
use Rattle.el_connect.proofs.outputs.fund_output.Goals as goal

pub returns-in_err-script-clause-refused : goal.returns-in_err-script-clause-refused
returns-in_err-script-clause-refused g c counts bs l n told reached room few =
    let e = c.in_err-script.field-0.0 in
    let rows = with_edits {G = g.R.Rows} c.args.t.now in
    err_passed c.from_residual.result _ e (err_from_is_err_and c.from_residual.result c.from_residual.ensures.1)
    (touch_refused c.args.output.now.1 c.args.maker.now.number (length (rows table.Scripts)) (length (rows table.Entries)) l e few
    (λ t rows is. c.in_err-script.ensures.full counts bs l told reached.hold reached.fits reached.script_heads t rows (ap (λ (f : ConnectFault). Err f) is))
    c.in_err-script.ensures.fault)

pub returns-clause-room : goal.returns-clause-room
returns-clause-room g c counts bs l n told reached room =
    let m = c.args.maker.now in
    let o = c.args.output.now in
    room_funded m.number c.args.index n o l room (c.in_ok-script.ensures.room counts bs l told reached.hold reached.fits reached.script_heads)

pub returns-clause-funded : goal.returns-clause-funded
returns-clause-funded g c counts bs l told reached is fit =
    let m = c.args.maker.now in
    let o = c.args.output.now in
    let e = add_entry o.1 m.number l in
    let touched = c.in_ok-script.ensures.lists counts bs l told reached.hold reached.fits reached.script_heads in
    let number = c.in_ok-script.ensures.number counts bs l told reached.hold reached.fits reached.script_heads ∙ sym (entered_number o.1 l.scripts) in
    let gone = c.in_ok-gone.ensures.value counts bs e told touched reached.tx_heads (same_maker m l e refl is) in
    let before = subst (λ (T : held.Tables). Hold counts bs e T) (sym c.value_replaced.ensures.read.tables) touched in
    let most = funded_at_most e m.number c.args.index o.0 c.in_ok-script.script in
    let fits : unspent_sum (add_output m.number c.args.index o.0 c.in_ok-script.script e).outs < 2 ^ 64 = omega arith in
    let added = c.in_ok-add_out.ensures.lists counts bs e told before reached.tx_heads (balances_fit _ fits) in
    let hold = subst (λ (j : ℕ). Hold counts bs (add_output m.number c.args.index o.0 j e) (with_edits {G = g.R.Rows} c.add_out.new.t)) number added in
    output_reached counts bs l (with_edits {G = g.R.Rows} c.args.t.now) (with_edits {G = g.R.Rows} c.add_out.new.t) c.args.sum m.number c.args.index c.in_ok-gone.gone c.saturating_add.result o reached fit gone
    (c.saturating_add.ensures ∙ ap (λ (s : ℕ). min (s + o.0) 18446744073709551615) c.saturating_sub.ensures) hold
