use Rattle.std.proofs.Common.{◌≡◌, true, take}
use Rattle.std.specs.List.{AllByRecursion}
use Rattle.el_audit.specs.declared.claim.Claim.{Claim}
use Rattle.el_audit.specs.within.Lists.{is_in_set}
use Rattle.el_audit.proofs.auditing.names_of.Given as goal

-- the script hashes of the claims before are there
abbrev pub invariant-loop-claim : goal.invariant-loop-claim
invariant-loop-claim l = AllByRecursion (λ (c : Claim). is_in_set l.names c.script ≡ true) (take l.claim-index l.claims)
