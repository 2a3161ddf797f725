use Rattle.std.proofs.Common.{◌≤◌, ◌+◌, refl, ◌∙◌, arith, [], length, ap}
use Rattle.std.proofs.lemmas.Result.{err_from_is_err_and}
use Rattle.el_tx.specs.Encoding.{max_money}
use Rattle.el_chain.proofs.CoinSteps.{err_passed}
use Rattle.el_chain.specs.RowCounts.{row_limit}
use Rattle.el_rows.specs.Transaction.{with_edits}
use Rattle.el_schema.proofs.Held.{count_txs}
use Rattle.el_connect.proofs.FullLemmas.{no_ins, coins_fine, coins_wrong}
use Rattle.el_connect.proofs.TxLemmas.{missing_refused, tx_refused}
use Rattle.el_connect.proofs.coins.check_coins.Goals as goal

pub returns-in_err-left-clause-wrong : goal.returns-in_err-left-clause-wrong
returns-in_err-left-clause-wrong g c counts bs l height told reached most between =
    let e = c.in_err-left.field-0.0 in
    let p = c.args.tx.now in
    let shown = with_edits {G = g.R.Rows} c.args.t.now in
    let hold = no_ins counts bs l shown (with_edits {G = g.R.Rows} c.shrink.new.self) reached.hold c.shrink.ensures.shrunk in
    let count = c.count-by.ensures.count ∙ count_txs counts bs l shown reached.hold in
    let few : 0 + length c.as_slice.result.now ≤ row_limit 5 = omega (arith, c.requires.small.inputs, ap length c.as_slice.ensures) in
    let stopped = c.in_err-left.ensures.missing counts bs (record l { ins = [] }) l told hold reached.tx_heads refl refl reached.sum_is few in
    err_passed c.from_residual.result _ e (err_from_is_err_and c.from_residual.result c.from_residual.ensures.1)
    (tx_refused height c.args.index p l e (missing_refused c.args.index height c.count-by.result p l c.as_slice.result.now e count c.as_slice.ensures stopped))

pub returns-in_err-check_outputs-clause-wrong : goal.returns-in_err-check_outputs-clause-wrong
returns-in_err-check_outputs-clause-wrong g c counts bs l height told reached most between =
    let e = c.in_err-check_outputs.field-0.0 in
    let shown = with_edits {G = g.R.Rows} c.args.t.now in
    let start = record l { ins = [] } in
    let hold = no_ins counts bs l shown (with_edits {G = g.R.Rows} c.shrink.new.self) reached.hold c.shrink.ensures.shrunk in
    let count = c.count-by.ensures.count ∙ count_txs counts bs l shown reached.hold in
    let taken = c.in_ok-left.ensures.taken counts bs start l told hold reached.tx_heads refl refl reached.sum_is in
    let fell = taken.fell in
    let low : c.in_ok-left.left ≤ max_money = omega (arith, fell, most) in
    err_passed c.from_residual-in_err-check_outputs.result _ e (err_from_is_err_and c.from_residual-in_err-check_outputs.result c.from_residual-in_err-check_outputs.ensures.1)
    (coins_wrong counts bs start l height c.args.index c.args.tx.now (with_edits {G = g.R.Rows} c.take_coins.new.t) c.in_ok-left.left c.args.sum c.count-by.result c.as_slice.result.now count c.as_slice.ensures between taken e
    (λ next turn is_next sum. c.in_err-check_outputs.ensures.wrong counts bs taken.now next told taken.hold reached.tx_heads turn is_next sum low))

pub returns-clause-fine : goal.returns-clause-fine
returns-clause-fine g c counts bs l height told reached most between =
    let shown = with_edits {G = g.R.Rows} c.args.t.now in
    let start = record l { ins = [] } in
    let hold = no_ins counts bs l shown (with_edits {G = g.R.Rows} c.shrink.new.self) reached.hold c.shrink.ensures.shrunk in
    let count = c.count-by.ensures.count ∙ count_txs counts bs l shown reached.hold in
    let taken = c.in_ok-left.ensures.taken counts bs start l told hold reached.tx_heads refl refl reached.sum_is in
    let fell = taken.fell in
    let low : c.in_ok-left.left ≤ max_money = omega (arith, fell, most) in
    coins_fine counts bs start l height c.args.index c.args.tx.now (with_edits {G = g.R.Rows} c.take_coins.new.t) c.in_ok-left.left c.args.sum c.count-by.result c.as_slice.result.now count c.as_slice.ensures between taken
    (λ next turn is_next sum. c.in_ok-check_outputs.ensures.fine counts bs taken.now next told taken.hold reached.tx_heads turn is_next sum low)
