-- Faults as findings.
use Rattle.std.specs.Prelude.{◌≡◌, Option, None, Some, Result, Ok, Err}
use Rattle.el_base.specs.declared.hash.Hash32.{Hash32}
use Rattle.el_chain.specs.declared.moves.MoveFault.{MoveFault}
use Rattle.el_headers.specs.declared.answer.PathFault.{PathFault}
use Rattle.el_headers.specs.declared.answer.PathFault.TheVariants as path
use Rattle.el_lines.specs.NodeAnswers.{move_refused}
use Rattle.el_model.specs.declared.fault.QueryFault.{QueryFault}
use Rattle.el_model.specs.declared.fault.QueryFault.TheVariants as query
use Rattle.el_audit_run.specs.declared.fault.AuditFault.{AuditFault}
use Rattle.el_audit_run.specs.declared.fault.AuditFault.TheVariants as audit
use Rattle.el_audit_run.specs.declared.finding.Finding.{Finding}
use Rattle.el_audit_run.specs.declared.finding.Finding.TheVariants as finding
use Rattle.el_audit_run.specs.Findings.{block_refused}

-- a fault of asking the index
abbrev pub unasked : QueryFault → AuditFault
unasked query.DiskFailed = audit.DiskFailed
unasked query.Memory = audit.Memory

-- what is found where no path to the tip is given
abbrev pub IsUnreached : Hash32 → PathFault → Result Finding AuditFault → Type 0
IsUnreached tip path.Unknown r = r ≡ Ok (finding.NoPath tip)
IsUnreached tip path.Unconnected r = r ≡ Ok (finding.NoPath tip)
IsUnreached tip path.Memory r = r ≡ Err audit.Memory

-- what is found where a block isn't as it should be
abbrev pub IsFaultyBlock : MoveFault → Finding → Type 0
IsFaultyBlock e (finding.BadBlock block flaw) = move_refused e ≡ Some (block_refused block flaw)
IsFaultyBlock e other = ⊥
