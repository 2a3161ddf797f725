use Rattle.std.proofs.lemmas.List.{take_all}
use Rattle.std.proofs.Common.{◌≡◌, true, subst, arith}
use Rattle.std.specs.List.{AllByRecursion}
use Rattle.el_audit.specs.declared.claim.Claim.{Claim}
use Rattle.el_audit.specs.within.Lists.{is_in_set}
use Rattle.el_audit.proofs.Pieces.{named_more}
use Rattle.el_audit.proofs.auditing.names_of.Goals as goal

pub loop-claim-preserved : goal.loop-claim-preserved
loop-claim-preserved c =
    named_more (is_in_set c.loop-claim.names) (is_in_set c.insert.new.self) c.args.claims.now c.loop-claim.claim-index c.claim-item.result c.loop-claim-test.true c.claim-item.is
    c.in_ok-insert.ensures.updates.0 c.loop-claim.invariant

pub returns : goal.returns
returns c =
    subst (AllByRecursion (λ (x : Claim). is_in_set c.loop-claim.names x.script ≡ true)) (take_all c.loop-claim.claim-index c.args.claims.now (let e = c.loop-claim-test.false in omega arith)) c.loop-claim.invariant
