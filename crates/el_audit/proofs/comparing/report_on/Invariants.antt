use Rattle.std.proofs.Common.{take}
use Rattle.std.specs.List.{AllByRecursion}
use Rattle.el_chain.specs.Chains.{Chain}
use Rattle.el_audit.specs.Claims.{IsRight}
use Rattle.el_audit.specs.within.Comparing.{AreGiven}
use Rattle.el_audit.proofs.comparing.report_on.Given as goal

-- the claims before are right
abbrev pub invariant-loop-claim : goal.invariant-loop-claim
invariant-loop-claim l = (chain : Chain) → AreGiven chain l.claims l.histories l.coins → AllByRecursion (IsRight chain) (take l.claim-index l.claims)
