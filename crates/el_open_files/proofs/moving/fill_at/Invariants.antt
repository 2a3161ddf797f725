use Rattle.std.proofs.Common.{◌≡◌, ◌≤◌, ℕ, length}
use Rattle.el_open_files.specs.Calls.{IsFront, Idle}
use Rattle.el_open_files.proofs.moving.fill_at.Given as goal

pub record Loop (g : goal.Over) (l : goal.Live-loop g) : Type 0 where
  pub within : l.done ≤ length l.buf
  pub same_length : length l.buf ≡ length l.initial.buf
  pub front : g.F.OpenFiles.tells → (f : ℕ) → g.F.OpenFiles.is_file l.file f
      → IsFront l.at l.done l.buf (g.F.OpenFiles.seen l.files f)
  pub idle : g.F.OpenFiles.tells → Idle g.F.OpenFiles.seen g.F.OpenFiles.moment g.F.OpenFiles.left_since g.F.OpenFiles.is_named
      l.initial.files l.files

abbrev pub invariant-loop : goal.invariant-loop
invariant-loop g l = Loop g l
