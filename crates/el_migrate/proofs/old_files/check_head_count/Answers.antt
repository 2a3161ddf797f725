use Rattle.std.proofs.Common.{refl, ◌∙◌}
use Rattle.el_recovery.proofs.Fronts.{fault_is}
use Rattle.el_migrate.proofs.old_files.check_head_count.Goals as goal

pub returns-then-found-ne-OLD_BUCKETS-clause-bad : goal.returns-then-found-ne-OLD_BUCKETS-clause-bad
returns-then-found-ne-OLD_BUCKETS-clause-bad c = (λ e. c.if-found-ne-OLD_BUCKETS.true (c.number_in-found.ensures ∙ e), fault_is c.file.ensures refl c.number_in-found.ensures)
