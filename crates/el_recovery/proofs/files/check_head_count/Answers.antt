use Rattle.std.proofs.Common.{refl, ◌∙◌}
use Rattle.el_recovery.proofs.Fronts.{fault_is}
use Rattle.el_recovery.proofs.files.check_head_count.Goals as goal

pub returns-then-found-rows-clause-bad : goal.returns-then-found-rows-clause-bad
returns-then-found-rows-clause-bad c = (λ e. c.if-found-rows.true (c.number_in-found.ensures ∙ e), fault_is c.file.ensures refl c.number_in-found.ensures)
