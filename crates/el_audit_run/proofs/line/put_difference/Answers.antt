use Rattle.std.proofs.Common.{◌++◌, ℕ, codes, ap, ◌∙◌}
use Rattle.std.specs.Fmt.{decimal}
use Rattle.el_audit_run.proofs.Texts.{three}
use Rattle.el_audit_run.proofs.line.put_difference.Goals as goal

pub returns-in_ok-put_number-in-Balance : goal.returns-in_ok-put_number-in-Balance
returns-in_ok-put_number-in-Balance c =
    rw c.in-Balance.is (three c.put_number-in-Balance-2.result _ _ _ _ _ _ _ _ c.in_ok-put_hash-in-Balance.ensures
    (c.in_ok-put_number-in-Balance.ensures ∙ ap (λ (n : ℕ). c.put_hash-in-Balance.new.line ++ (codes " " ++ decimal n)) c.from-in-Balance.ensures)
    (ap (λ (n : ℕ). codes " " ++ decimal n) c.from-in-Balance-2.ensures) c.put_number-in-Balance-2.ensures)
