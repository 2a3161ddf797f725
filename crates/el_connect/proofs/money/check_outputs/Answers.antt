use Rattle.std.proofs.Common.{◌<◌, ◌≤◌, ◌+◌, ◌^◌, inr, ap, arith}
use Rattle.std.proofs.lemmas.Result.{err_from_is_err_and}
use Rattle.el_tx.specs.Encoding.{max_money}
use Rattle.el_chain.proofs.CoinSteps.{err_passed}
use Rattle.el_connect.specs.within.Parts.{values}
use Rattle.el_connect.proofs.MoneyLemmas.{few_fine, summed}
use Rattle.el_connect.proofs.money.check_outputs.Goals as goal

pub returns-then-most-le-MAX_MONEY-clause-fine : goal.returns-then-most-le-MAX_MONEY-clause-fine
returns-then-most-le-MAX_MONEY-clause-fine g c counts bs l next told hold some turn is_next is low =
    let few : c.args.left + values c.args.tx.now.outputs ≤ max_money =
    omega (arith, c.if-most-le-MAX_MONEY.true, c.saturating_add-most.ensures, c.total.ensures, ap values c.as_slice-outputs.ensures) in
    few_fine l next c.args.number c.args.left c.args.tx.now.txid c.args.tx.now.outputs is_next is few

pub returns-clause-fine : goal.returns-clause-fine
returns-clause-fine g c counts bs l next told hold some turn is_next is low =
    let many = ap values c.as_slice-outputs.ensures in
    let fit : c.args.left + values c.as_slice-outputs.result.now < 2 ^ 64 = omega (arith, low, many, c.requires.small.money) in
    summed next c.args.number c.in_ok-after.after c.as_slice-outputs.result.now c.args.tx.now.outputs _ (c.in_ok-after.ensures.sum counts bs l next told hold some turn is_next is fit) c.as_slice-outputs.ensures
    c.in_ok-check_money.ensures

pub returns-in_err-check_money-clause-wrong : goal.returns-in_err-check_money-clause-wrong
returns-in_err-check_money-clause-wrong g c counts bs l next told hold some turn is_next is low =
    let e = c.in_err-check_money.field-0.0 in
    let many = ap values c.as_slice-outputs.ensures in
    let fit : c.args.left + values c.as_slice-outputs.result.now < 2 ^ 64 = omega (arith, low, many, c.requires.small.money) in
    err_passed c.from_residual-in_err-check_money.result _ e (err_from_is_err_and c.from_residual-in_err-check_money.result c.from_residual-in_err-check_money.ensures.1)
    (inr (summed next c.args.number c.in_ok-after.after c.as_slice-outputs.result.now c.args.tx.now.outputs _ (c.in_ok-after.ensures.sum counts bs l next told hold some turn is_next is fit) c.as_slice-outputs.ensures
    c.in_err-check_money.ensures))
