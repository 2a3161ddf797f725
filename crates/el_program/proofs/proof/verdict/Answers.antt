use Rattle.std.proofs.Common.{refl, true≢false, sym, ◌∙◌}
use Rattle.el_program.specs.Audits.{yes, no}
use Rattle.el_program.proofs.proof.verdict.Goals as goal

pub returns-then-check_tx : goal.returns-then-check_tx
returns-then-check_tx c = yes (rw c.as_slice.ensures at (c.check_tx.ensures.0 c.if-check_tx.true)) refl

pub returns-else-check_tx : goal.returns-else-check_tx
returns-else-check_tx c = no (λ proves. true≢false (sym (c.check_tx.ensures.1 (rw c.as_slice.ensures proves)) ∙ c.if-check_tx.false)) refl
