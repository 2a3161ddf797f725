use Rattle.std.proofs.Common.{◌<◌, length, arith, inr}
use Rattle.std.proofs.lemmas.Result.{err_from_is_err_and}
use Rattle.el_chain.proofs.CoinSteps.{err_passed}
use Rattle.el_chain.specs.RowCounts.{row_limit, add_scripts}
use Rattle.el_rows.specs.Transaction.{with_edits}
use Rattle.el_schema.proofs.Held.{count_scripts}
use Rattle.el_connect.specs.within.Parts.{output_scripts}
use Rattle.el_connect.proofs.ScriptLemmas.{scripts_few}
use Rattle.el_connect.proofs.scripts.check_scripts.Goals as goal

pub returns-then-count-outputs-clause-fits : goal.returns-then-count-outputs-clause-fits
returns-then-count-outputs-clause-fits g c counts bs l told hold fits some =
    let many = count_scripts counts bs l (with_edits {G = g.R.Rows} c.args.t.now) hold in
    let most = scripts_few l.scripts c.args.outputs.now in
    omega (arith, many, most)

pub returns-in_err-check_table-clause-full : goal.returns-in_err-check_table-clause-full
returns-in_err-check_table-clause-full g c counts bs l told hold fits some =
    let e = c.in_err-check_table.field-0.0 in
    let many = count_scripts counts bs l (with_edits {G = g.R.Rows} c.args.t.now) hold in
    let new = c.in_ok-new.ensures.new counts bs l told hold fits some in
    let over : row_limit 6 < length (add_scripts l.scripts (output_scripts c.args.outputs.now)) = omega (arith, many, new, c.count-count.ensures.count, c.in_err-check_table.ensures.0) in
    err_passed c.from_residual-in_err-check_table.result _ e (err_from_is_err_and c.from_residual-in_err-check_table.result c.from_residual-in_err-check_table.ensures.1) (inr (c.in_err-check_table.ensures.1, over))

pub returns-clause-fits : goal.returns-clause-fits
returns-clause-fits g c counts bs l told hold fits some =
    let many = count_scripts counts bs l (with_edits {G = g.R.Rows} c.args.t.now) hold in
    let new = c.in_ok-new.ensures.new counts bs l told hold fits some in
    omega (arith, many, new, c.count-count.ensures.count, c.in_ok-check_table.ensures)
