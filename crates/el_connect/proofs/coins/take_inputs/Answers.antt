use Rattle.std.proofs.Common.{◌≤◌, ◌+◌, refl, sym, subst, ◌∙◌, arith, length, ap}
use Rattle.std.proofs.lemmas.Result.{err_from_is_err_and}
use Rattle.el_tx.specs.Encoding.{max_money}
use Rattle.el_chain.proofs.CoinSteps.{err_passed}
use Rattle.el_chain.specs.RowCounts.{row_limit}
use Rattle.el_row_formats.specs.Tables as held
use Rattle.el_rows.specs.Transaction.{with_edits}
use Rattle.el_schema.proofs.Held.{count_txs}
use Rattle.el_schema.specs.Rows.{Hold}
use Rattle.el_connect.specs.within.Full.{ReadyCoins}
use Rattle.el_connect.proofs.FullLemmas.{coins_wrong, coins_ready, scripts_wrong}
use Rattle.el_connect.proofs.TxLemmas.{missing_refused, tx_refused}
use Rattle.el_connect.proofs.coins.take_inputs.Goals as goal

pub returns-in_err-left-clause-refused : goal.returns-in_err-left-clause-refused
returns-in_err-left-clause-refused g c counts bs l height told reached most between counted =
    let e = c.in_err-left.field-0.0 in
    let p = c.args.tx.now in
    let count = c.count-by.ensures.count ∙ count_txs counts bs l (with_edits {G = g.R.Rows} c.args.t.now) reached.hold in
    let few : length l.ins + length c.as_slice.result.now ≤ row_limit 5 = omega (arith, counted.ins, ap length c.as_slice.ensures) in
    let stopped = c.in_err-left.ensures.missing counts bs l l told reached.hold reached.tx_heads refl refl reached.sum_is few in
    err_passed c.from_residual.result _ e (err_from_is_err_and c.from_residual.result c.from_residual.ensures.1)
    (tx_refused height c.args.index p l e (missing_refused c.args.index height c.count-by.result p l c.as_slice.result.now e count c.as_slice.ensures stopped))

pub returns-in_err-check_outputs-clause-refused : goal.returns-in_err-check_outputs-clause-refused
returns-in_err-check_outputs-clause-refused g c counts bs l height told reached most between counted =
    let e = c.in_err-check_outputs.field-0.0 in
    let count = c.count-by.ensures.count ∙ count_txs counts bs l (with_edits {G = g.R.Rows} c.args.t.now) reached.hold in
    let taken = c.in_ok-left.ensures.taken counts bs l l told reached.hold reached.tx_heads refl refl reached.sum_is in
    let fell = taken.fell in
    let low : c.in_ok-left.left ≤ max_money = omega (arith, fell, most) in
    err_passed c.from_residual-in_err-check_outputs.result _ e (err_from_is_err_and c.from_residual-in_err-check_outputs.result c.from_residual-in_err-check_outputs.ensures.1)
    (coins_wrong counts bs l l height c.args.index c.args.tx.now (with_edits {G = g.R.Rows} c.take_coins.new.t) c.in_ok-left.left c.args.sum c.count-by.result c.as_slice.result.now count c.as_slice.ensures between taken e
    (λ next turn is_next sum. c.in_err-check_outputs.ensures.wrong counts bs taken.now next told taken.hold reached.tx_heads turn is_next sum low))

pub returns-in_err-check_scripts-clause-refused : goal.returns-in_err-check_scripts-clause-refused
returns-in_err-check_scripts-clause-refused g c counts bs l height told reached most between counted =
    let e = c.in_err-check_scripts.field-0.0 in
    let shown = with_edits {G = g.R.Rows} c.args.t.now in
    let count = c.count-by.ensures.count ∙ count_txs counts bs l shown reached.hold in
    let taken = c.in_ok-left.ensures.taken counts bs l l told reached.hold reached.tx_heads refl refl reached.sum_is in
    let fell = taken.fell in
    let low : c.in_ok-left.left ≤ max_money = omega (arith, fell, most) in
    let hold = subst (λ (T : held.Tables). Hold counts bs taken.now T) (sym c.check_outputs.ensures.read.tables) taken.hold in
    err_passed c.from_residual-in_err-check_scripts.result _ e (err_from_is_err_and c.from_residual-in_err-check_scripts.result c.from_residual-in_err-check_scripts.ensures.1)
    (scripts_wrong counts bs l l height c.args.index c.args.tx.now (with_edits {G = g.R.Rows} c.take_coins.new.t) c.in_ok-left.left c.args.sum c.count-by.result c.as_slice.result.now count c.as_slice.ensures between taken refl
    shown reached e c.as_slice-2.result.now c.as_slice-2.ensures counted
    (λ next turn is_next sum. c.in_ok-check_outputs.ensures.fine counts bs taken.now next told taken.hold reached.tx_heads turn is_next sum low)
    (c.in_err-check_scripts.ensures.full counts bs taken.now told hold (taken.fits reached.fits) reached.script_heads))

pub returns-clause-ready : goal.returns-clause-ready
returns-clause-ready g c counts bs l height told reached most between counted =
    let shown = with_edits {G = g.R.Rows} c.args.t.now in
    let count = c.count-by.ensures.count ∙ count_txs counts bs l shown reached.hold in
    let taken = c.in_ok-left.ensures.taken counts bs l l told reached.hold reached.tx_heads refl refl reached.sum_is in
    let fell = taken.fell in
    let low : c.in_ok-left.left ≤ max_money = omega (arith, fell, most) in
    let hold = subst (λ (T : held.Tables). Hold counts bs taken.now T) (sym c.check_outputs.ensures.read.tables) taken.hold in
    let same = c.check_scripts.ensures.read.tables ∙ c.check_outputs.ensures.read.tables in
    subst (λ (T : held.Tables). ReadyCoins counts bs T c.in_ok-left.left height c.args.tx.now l) (sym same)
    (coins_ready counts bs l l height c.args.index c.args.tx.now (with_edits {G = g.R.Rows} c.take_coins.new.t) c.in_ok-left.left c.args.sum c.count-by.result c.as_slice.result.now count c.as_slice.ensures between taken refl
    shown reached c.as_slice-2.result.now c.as_slice-2.ensures most
    (λ next turn is_next sum. c.in_ok-check_outputs.ensures.fine counts bs taken.now next told taken.hold reached.tx_heads turn is_next sum low)
    (c.in_ok-check_scripts.ensures.fits counts bs taken.now told hold (taken.fits reached.fits) reached.script_heads))
