use Rattle.std.proofs.Common.{◌≤◌, length}
use Rattle.el_ledger_tests.proofs.audit_tests.branch_of.Given as goal

-- no branch is longer than 32 hashes
abbrev pub invariant-loop-text : goal.invariant-loop-text
invariant-loop-text l = length l.branch.items ≤ 32
