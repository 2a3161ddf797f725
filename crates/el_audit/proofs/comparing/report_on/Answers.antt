use Rattle.std.proofs.Common.{◌∙◌, refl, subst, arith}
use Rattle.el_audit.specs.Reports.{IsDifference}
use Rattle.el_audit.proofs.Given.{money_given, wanted_given}
use Rattle.el_audit.proofs.Reports.{differs_here, right_more, right_all}
use Rattle.el_audit.proofs.comparing.report_on.Goals as goal

pub difference-requires : goal.difference-requires
difference-requires c =
    money_given c.requires.0 c.args.claims.now c.loop-claim.claim-index c.claim-item.result c.args.histories.now c.args.coins.now c.values_of-unspent.result.now c.loop-claim-test.true c.claim-item.is
    c.requires.1 c.values_of-unspent.ensures

pub returns-in-Some : goal.returns-in-Some
returns-in-Some c = λ chain given.
    differs_here chain c.args.claims.now c.loop-claim.claim-index c.claim-item.result _ c.in-Some.kind c.in-Some.at c.loop-claim-test.true c.claim-item.is (c.loop-claim.invariant chain given) refl
    (subst (λ w. IsDifference w c.claim-item.result c.in-Some.kind c.in-Some.at)
    (wanted_given chain c.args.claims.now c.loop-claim.claim-index c.claim-item.result c.args.histories.now c.args.coins.now c.values_of-history.result.now c.values_of-unspent.result.now
    c.loop-claim-test.true c.claim-item.is given c.values_of-history.ensures c.values_of-unspent.ensures)
    c.in-Some.ensures)

pub loop-claim-preserved : goal.loop-claim-preserved
loop-claim-preserved c = λ chain given.
    right_more chain c.args.claims.now c.loop-claim.claim-index c.claim-item.result c.loop-claim-test.true c.claim-item.is (c.loop-claim.invariant chain given)
    (c.in_default.ensures
    ∙ wanted_given chain c.args.claims.now c.loop-claim.claim-index c.claim-item.result c.args.histories.now c.args.coins.now c.values_of-history.result.now c.values_of-unspent.result.now
    c.loop-claim-test.true c.claim-item.is given c.values_of-history.ensures c.values_of-unspent.ensures)

pub returns : goal.returns
returns c = λ chain given. (
  right_all chain c.args.claims.now c.loop-claim.claim-index (let e = c.loop-claim-test.false in omega arith) (c.loop-claim.invariant chain given),
  refl,
)
