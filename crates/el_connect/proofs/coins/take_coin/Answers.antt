use Rattle.std.proofs.Common.{◌≡◌, Some, sym, subst, ◌∙◌}
use Rattle.std.proofs.lemmas.Result.{err_from_is_err_and}
use Rattle.el_chain.proofs.CoinSteps.{err_passed}
use Rattle.el_rows.specs.Transaction.{with_edits}
use Rattle.el_tables.specs.Lists.{State, Lists, coin_number, spend_output}
use Rattle.el_schema.specs.Rows.{Hold}
use Rattle.el_row_formats.specs.Tables as held
use Rattle.el_connect.proofs.StepLemmas.{spent_lists, value_stays}
use Rattle.el_connect.proofs.FullLemmas.{ins_refused}
use Rattle.el_connect.proofs.coins.take_coin.Goals as goal

pub returns-in_err-spend-clause-refused : goal.returns-in_err-spend-clause-refused
returns-in_err-spend-clause-refused g c counts bs l told hold few =
    let e = c.in_err-spend.field-0.0 in
    err_passed c.from_residual.result _ e (err_from_is_err_and c.from_residual.result c.from_residual.ensures.1)
    (ins_refused counts bs l (with_edits {G = g.R.Rows} c.args.t.now) e hold few c.in_err-spend.ensures.fault)

pub returns-in_ok-value-in-Some-clause-taken : goal.returns-in_ok-value-in-Some-clause-taken
returns-in_ok-value-in-Some-clause-taken g c counts bs l told hold some =
    let k = c.in-Some.coin in
    let o = c.args.o.now in
    let by = c.args.by in
    let number : coin_number o l.txs l.outs ≡ Some k = sym (c.in_ok-spend.ensures.coin counts bs l told hold some) ∙ c.in-Some.is in
    let one = subst (λ (x : Lists). Hold counts bs x (with_edits {G = g.R.Rows} c.spend.new.t)) (spent_lists o by k l number) (c.in_ok-spend.ensures.lists counts bs l told hold some) in
    let two = subst (λ (T : held.Tables). Hold counts bs (spend_output by k l) T) (sym c.output_value.ensures.read.tables) one in
    record {
      coin = k;
      is = number;
      holds = c.in_ok-value-in-Some.ensures.value counts bs (spend_output by k l) told one ∙ value_stays (State.Spent by) k k l.outs;
      hold = two;
    }
