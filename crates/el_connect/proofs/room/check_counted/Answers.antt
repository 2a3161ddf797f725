use Rattle.std.proofs.Common.{◌<◌, ◌+◌, ◌≤◌, arith, length}
use Rattle.std.proofs.lemmas.Result.{err_from_is_err_and}
use Rattle.el_chain.proofs.CoinSteps.{err_passed}
use Rattle.el_chain.specs.RowCounts.{row_limit}
use Rattle.el_rows.specs.Transaction.{with_edits}
use Rattle.el_schema.proofs.Held.{count_txs, count_outs, count_ins}
use Rattle.el_connect.proofs.FullLemmas.{full_blocks, full_txs, full_outs, full_ins}
use Rattle.el_connect.proofs.room.check_counted.Goals as goal

pub returns-in_err-check_table-clause-full : goal.returns-in_err-check_table-clause-full
returns-in_err-check_table-clause-full g c counts bs l after hold txs outs ins =
    let e = c.in_err-check_table.field-0.0 in
    let rows = with_edits {G = g.R.Rows} c.args.t.now in
    let one = count_txs counts bs l rows hold in
    let two = count_outs counts bs l rows hold in
    let three = count_ins counts bs l rows hold in
    err_passed c.from_residual.result _ e (err_from_is_err_and c.from_residual.result c.from_residual.ensures.1)
    (full_blocks c.args.height after e (let n : row_limit 1 < c.args.height + 1 = omega (arith, c.in_err-check_table.ensures.0, c.from.ensures) in n) c.in_err-check_table.ensures.1)

pub returns-in_err-check_table-2-clause-full : goal.returns-in_err-check_table-2-clause-full
returns-in_err-check_table-2-clause-full g c counts bs l after hold txs outs ins =
    let e = c.in_err-check_table-2.field-0.0 in
    let rows = with_edits {G = g.R.Rows} c.args.t.now in
    let one = count_txs counts bs l rows hold in
    let two = count_outs counts bs l rows hold in
    let three = count_ins counts bs l rows hold in
    err_passed c.from_residual-in_err-check_table-2.result _ e (err_from_is_err_and c.from_residual-in_err-check_table-2.result c.from_residual-in_err-check_table-2.ensures.1)
    (full_txs c.args.height after e (let low : c.args.height + 1 ≤ row_limit 1 = omega (arith, c.in_ok-check_table.ensures, c.from.ensures) in low)
    (let n : row_limit 2 < length after.txs = omega (arith, c.in_err-check_table-2.ensures.0, c.count.ensures.count, one, txs) in n) c.in_err-check_table-2.ensures.1)

pub returns-in_err-check_table-3-clause-full : goal.returns-in_err-check_table-3-clause-full
returns-in_err-check_table-3-clause-full g c counts bs l after hold txs outs ins =
    let e = c.in_err-check_table-3.field-0.0 in
    let rows = with_edits {G = g.R.Rows} c.args.t.now in
    let one = count_txs counts bs l rows hold in
    let two = count_outs counts bs l rows hold in
    let three = count_ins counts bs l rows hold in
    err_passed c.from_residual-in_err-check_table-3.result _ e (err_from_is_err_and c.from_residual-in_err-check_table-3.result c.from_residual-in_err-check_table-3.ensures.1)
    (full_outs c.args.height after e (let low : c.args.height + 1 ≤ row_limit 1 = omega (arith, c.in_ok-check_table.ensures, c.from.ensures) in low) (let few : length after.txs ≤ row_limit 2 = omega (arith, c.in_ok-check_table-2.ensures, c.count.ensures.count, one, txs) in few)
    (let n : row_limit 4 < length after.outs = omega (arith, c.in_err-check_table-3.ensures.0, c.count-2.ensures.count, two, outs) in n) c.in_err-check_table-3.ensures.1)

pub returns-in_err-check_table-4-clause-full : goal.returns-in_err-check_table-4-clause-full
returns-in_err-check_table-4-clause-full g c counts bs l after hold txs outs ins =
    let e = c.in_err-check_table-4.field-0.0 in
    let rows = with_edits {G = g.R.Rows} c.args.t.now in
    let one = count_txs counts bs l rows hold in
    let two = count_outs counts bs l rows hold in
    let three = count_ins counts bs l rows hold in
    err_passed c.from_residual-in_err-check_table-4.result _ e (err_from_is_err_and c.from_residual-in_err-check_table-4.result c.from_residual-in_err-check_table-4.ensures.1)
    (full_ins c.args.height after e (let low : c.args.height + 1 ≤ row_limit 1 = omega (arith, c.in_ok-check_table.ensures, c.from.ensures) in low) (let few : length after.txs ≤ row_limit 2 = omega (arith, c.in_ok-check_table-2.ensures, c.count.ensures.count, one, txs) in few)
    (let more : length after.outs ≤ row_limit 4 = omega (arith, c.in_ok-check_table-3.ensures, c.count-2.ensures.count, two, outs) in more)
    (let n : row_limit 5 < length after.ins = omega (arith, c.in_err-check_table-4.ensures.0, c.count-3.ensures.count, three, ins) in n) c.in_err-check_table-4.ensures.1)

pub returns-clause-tx : goal.returns-clause-tx
returns-clause-tx g c counts bs l hold =
    let many = count_txs counts bs l (with_edits {G = g.R.Rows} c.args.t.now) hold in
    omega (arith, many, c.count.ensures.count, c.in_ok-check_table-2.ensures)

pub returns-clause-outs : goal.returns-clause-outs
returns-clause-outs g c counts bs l hold =
    let many = count_outs counts bs l (with_edits {G = g.R.Rows} c.args.t.now) hold in
    omega (arith, many, c.count-2.ensures.count, c.in_ok-check_table-3.ensures)

pub returns-clause-ins : goal.returns-clause-ins
returns-clause-ins g c counts bs l hold =
    let many = count_ins counts bs l (with_edits {G = g.R.Rows} c.args.t.now) hold in
    omega (arith, many, c.count-3.ensures.count, c.in_ok-check_table-4.ensures)
