use Rattle.std.proofs.Common.{◌≡◌, ◌≤◌, ℕ, length}
use Rattle.el_outside.specs.Files.{AllGrow}
use Rattle.el_open_files.specs.Calls.{IsFront}
use Rattle.el_net.proofs.reading.fill_at.Given as goal

pub record Loop (g : goal.Over) (l : goal.Live-loop g) : Type 0 where
  pub within : l.done ≤ length l.buf
  pub same_length : length l.buf ≡ length l.initial.buf
  pub front : g.F.Folder.tells → (f : ℕ) → g.F.Folder.is_file l.file f
      → IsFront l.at l.done l.buf (g.F.Folder.bytes l.folder f)
  pub grows : g.F.Folder.tells → AllGrow (g.F.Folder.bytes l.initial.folder) (g.F.Folder.bytes l.folder)

abbrev pub invariant-loop : goal.invariant-loop
invariant-loop g l = Loop g l
