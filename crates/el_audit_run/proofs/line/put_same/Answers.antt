use Rattle.std.proofs.Common.{◌++◌, ℕ, codes, ap, ◌∙◌}
use Rattle.std.specs.Fmt.{decimal}
use Rattle.el_audit_run.proofs.Texts.{three}
use Rattle.el_audit_run.proofs.line.put_same.Goals as goal

pub returns : goal.returns
returns c =
    three c.put_number-3.result _ _ _ _ _ _ _ _ (c.in_ok-put_number.ensures ∙ ap (λ (n : ℕ). c.args.line.now ++ (codes "same height " ++ decimal n)) c.from.ensures)
    c.in_ok-put_number-2.ensures (ap (λ (n : ℕ). codes " scripts " ++ decimal n) c.from-2.ensures) c.put_number-3.ensures
