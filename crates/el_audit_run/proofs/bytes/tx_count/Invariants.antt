use Rattle.std.proofs.Common.{◌≡◌, ◌≤◌, ◌*◌, ◌^◌, take}
use Rattle.el_audit_run.specs.Findings.{tx_count}
use Rattle.el_audit_run.proofs.bytes.tx_count.Given as goal

abbrev pub invariant-loop-placed : goal.invariant-loop-placed
invariant-loop-placed l = (l.sum ≡ tx_count (take l.placed-index l.chain)) × (l.sum ≤ l.placed-index * 2 ^ 64)
