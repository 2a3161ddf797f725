use Rattle.std.proofs.Common.{◌≡◌, ◌≤◌, ◌*◌, ◌^◌, take}
use Rattle.el_audit_run.specs.Findings.{path_bytes}
use Rattle.el_audit_run.proofs.bytes.path_bytes.Given as goal

abbrev pub invariant-loop-node : goal.invariant-loop-node
invariant-loop-node l = (l.sum ≡ path_bytes (take l.node-index l.path)) × (l.sum ≤ l.node-index * 2 ^ 32)
