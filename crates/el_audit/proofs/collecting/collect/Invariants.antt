use Rattle.std.proofs.Common.{◌≡◌, ◌≤◌, ◌+◌, take, map}
use Rattle.el_chain.specs.Chains.{Chain}
use Rattle.el_model.specs.LedgerCalls.{Asked}
use Rattle.el_audit.specs.declared.claim.Claim.{Claim}
use Rattle.el_audit.specs.Claims.{claim_of}
use Rattle.el_audit.specs.Collected.{claims_rows}
use Rattle.el_audit.proofs.collecting.collect.Given as goal

-- what was asked so far
abbrev pub invariant-loop-script : goal.invariant-loop-script
invariant-loop-script g l =
    let d = g.G.Ledger in
    record {
      quiet : Asked d l.initial.ledger l.ledger;
      claims : (chain : Chain) → d.stands l.initial.ledger chain → l.claims.items ≡ map (claim_of chain) (take l.script-index l.scripts);
      named : map (λ (c : Claim). c.script) l.claims.items ≡ take l.script-index l.scripts;
      rows : (chain : Chain) → d.stands l.initial.ledger chain
          → d.reads l.ledger ≤ d.reads l.initial.ledger + claims_rows chain (d.buckets l.initial.ledger) (take l.script-index l.scripts);
      unfailed : d.faults l.ledger ≡ d.faults l.initial.ledger;
    }
