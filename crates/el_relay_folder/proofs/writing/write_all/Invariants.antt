use Rattle.std.proofs.Common.{◌≤◌, length, take}
use Rattle.el_relay_folder.specs.Outboxes.{PutsNone}
use Rattle.el_relay_folder.proofs.Steps.{HasFront}
use Rattle.el_relay_folder.proofs.writing.write_all.Given as goal

pub record Loop (g : goal.Over) (l : goal.Live-loop g) : Type 0 where
  pub within : l.done ≤ length l.text
  pub written : g.F.Outbox.tells → HasFront (g.F.Outbox.draft l.initial.file) (g.F.Outbox.draft l.file) (take l.done l.text)
  pub none : g.F.Outbox.tells → PutsNone (g.F.Outbox.files l.initial.outbox) (g.F.Outbox.files l.outbox)

abbrev pub invariant-loop : goal.invariant-loop
invariant-loop g l = Loop g l
