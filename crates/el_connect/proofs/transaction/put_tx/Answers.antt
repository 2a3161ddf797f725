use Rattle.std.proofs.Common.{length, sym, ◌∙◌}
use Rattle.std.proofs.lemmas.Result.{err_from_is_err_and}
use Rattle.el_chain.proofs.CoinSteps.{err_passed}
use Rattle.el_rows.specs.Transaction.{with_edits}
use Rattle.el_schema.proofs.Held.{count_txs, count_outs, count_ins}
use Rattle.el_connect.proofs.TxLemmas.{room_ready, coins_at, few_touched, inputs_refused, fit_ready, room_touching, few_txs, few_scripts, tx_led, outputs_refused, ok_joined, err_mapped}
use Rattle.el_connect.proofs.transaction.put_tx.Goals as goal

pub returns-in_err-left-clause-refused : goal.returns-in_err-left-clause-refused
returns-in_err-left-clause-refused g c counts bs l told reached most between counted =
    err_passed c.from_residual.result _ c.in_err-left.field-0.0 (err_from_is_err_and c.from_residual.result c.from_residual.ensures.1)
    (c.in_err-left.ensures.refused counts bs l c.args.height told reached most between counted)

pub returns-in_err-touch_inputs-clause-refused : goal.returns-in_err-touch_inputs-clause-refused
returns-in_err-touch_inputs-clause-refused g c counts bs l told reached most between counted =
    let e = c.in_err-touch_inputs.field-0.0 in
    let p = c.args.tx.now in
    let shown = with_edits {G = g.R.Rows} c.args.t.now in
    let rows = with_edits {G = g.R.Rows} c.take_inputs.new.t in
    let by = c.count-by.ensures.count ∙ count_txs counts bs l shown reached.hold in
    let ready = c.in_ok-left.ensures.ready counts bs l c.args.height told reached most between counted in
    let room = room_ready counts bs l c.args.height c.args.index p rows c.in_ok-left.left counted between ready in
    let coins = coins_at counts bs l c.args.height c.args.index p rows c.in_ok-left.left counted between ready c.count-first_in.result (c.count-first_in.ensures.count ∙ count_ins counts bs l shown reached.hold) in
    let few = few_touched counts bs l c.args.height c.args.index p rows c.in_ok-left.left counted between ready c.count-by.result by in
    err_passed c.from_residual-in_err-touch_inputs.result _ e (err_from_is_err_and c.from_residual-in_err-touch_inputs.result c.from_residual-in_err-touch_inputs.ensures.1)
    (inputs_refused counts bs l c.args.height c.args.index p rows c.in_ok-left.left counted between ready c.count-by.result e by
    (c.in_err-touch_inputs.ensures.refused counts bs ready.now ready.coins c.in_ok-left.left (length p.outputs) told ready.reached room coins (ready.many ∙ sym c.len.ensures) few))

pub returns-clause-connected : goal.returns-clause-connected
returns-clause-connected g c counts bs l told reached most between counted =
    let p = c.args.tx.now in
    let shown = with_edits {G = g.R.Rows} c.args.t.now in
    let rows = with_edits {G = g.R.Rows} c.take_inputs.new.t in
    let left = c.in_ok-left.left in
    let by = c.count-by.ensures.count ∙ count_txs counts bs l shown reached.hold in
    let first = c.count-first_in.ensures.count ∙ count_ins counts bs l shown reached.hold in
    let row = c.row_of-row.ensures.listed l (c.count.ensures.count ∙ count_outs counts bs l shown reached.hold) first in
    let ready = c.in_ok-left.ensures.ready counts bs l c.args.height told reached most between counted in
    let room = room_ready counts bs l c.args.height c.args.index p rows left counted between ready in
    let coins = coins_at counts bs l c.args.height c.args.index p rows left counted between ready c.count-first_in.result first in
    let touching = c.in_ok-touch_inputs.ensures.touched counts bs ready.now ready.coins left (length p.outputs) told ready.reached room coins (ready.many ∙ sym c.len.ensures) in
    let os = c.as_slice.result.now in
    let fit = fit_ready counts bs l c.args.height c.args.index p rows left counted between ready c.count-by.result _ os _ by row c.as_slice.ensures touching c.requires.small in
    let places = room_touching counts bs l c.args.height c.args.index p rows left counted between ready c.count-by.result _ os _ by row c.as_slice.ensures touching in
    ok_joined c.make_outputs.result (c.make_outputs.ensures.made counts bs touching.lists told touching.reached places fit) (c.make_outputs.ensures.room counts bs touching.lists told touching.reached places fit)
    (tx_led counts bs l c.args.height c.args.index p rows left counted between ready c.count-by.result _ os _ by row c.as_slice.ensures touching (with_edits {G = g.R.Rows} c.make_outputs.new.t))

pub returns-clause-refused : goal.returns-clause-refused
returns-clause-refused g c counts bs l told reached most between counted =
    let p = c.args.tx.now in
    let shown = with_edits {G = g.R.Rows} c.args.t.now in
    let rows = with_edits {G = g.R.Rows} c.take_inputs.new.t in
    let left = c.in_ok-left.left in
    let by = c.count-by.ensures.count ∙ count_txs counts bs l shown reached.hold in
    let first = c.count-first_in.ensures.count ∙ count_ins counts bs l shown reached.hold in
    let row = c.row_of-row.ensures.listed l (c.count.ensures.count ∙ count_outs counts bs l shown reached.hold) first in
    let ready = c.in_ok-left.ensures.ready counts bs l c.args.height told reached most between counted in
    let room = room_ready counts bs l c.args.height c.args.index p rows left counted between ready in
    let coins = coins_at counts bs l c.args.height c.args.index p rows left counted between ready c.count-first_in.result first in
    let touching = c.in_ok-touch_inputs.ensures.touched counts bs ready.now ready.coins left (length p.outputs) told ready.reached room coins (ready.many ∙ sym c.len.ensures) in
    let os = c.as_slice.result.now in
    let fit = fit_ready counts bs l c.args.height c.args.index p rows left counted between ready c.count-by.result _ os _ by row c.as_slice.ensures touching c.requires.small in
    let places = room_touching counts bs l c.args.height c.args.index p rows left counted between ready c.count-by.result _ os _ by row c.as_slice.ensures touching in
    let few = few_txs counts bs l c.args.height c.args.index p rows left counted between ready c.count-by.result _ os _ by row c.as_slice.ensures touching in
    let short = few_scripts counts bs l c.args.height c.args.index p rows left counted between ready c.count-by.result _ os _ by row c.as_slice.ensures touching in
    err_mapped c.make_outputs.result (c.make_outputs.ensures.refused counts bs touching.lists told touching.reached places fit few short)
    (outputs_refused counts bs l c.args.height c.args.index p rows left counted between ready c.count-by.result _ os _ by row c.as_slice.ensures touching)
