use Rattle.std.proofs.Common.{◌≡◌, ◌≤◌, ℕ, length, take}
use Rattle.el_outside.specs.Disk.{over, Torn}
use Rattle.el_open_files.specs.Calls.{ChangesFile}
use Rattle.el_open_files.proofs.moving.write_all.Given as goal

pub record Loop (g : goal.Over) (l : goal.Live-loop g) : Type 0 where
  pub within : l.done ≤ length l.bytes
  pub written : g.F.OpenFiles.tells → (f : ℕ) → g.F.OpenFiles.is_file l.file f → l.at ≤ length (g.F.OpenFiles.seen l.initial.files f)
      → g.F.OpenFiles.seen l.files f ≡ over (g.F.OpenFiles.seen l.initial.files f) l.at (take l.done l.bytes)
  pub changes : g.F.OpenFiles.tells → (f : ℕ) → g.F.OpenFiles.is_file l.file f → l.at ≤ length (g.F.OpenFiles.seen l.initial.files f)
      → ChangesFile g.F.OpenFiles.seen g.F.OpenFiles.moment g.F.OpenFiles.left_since g.F.OpenFiles.is_named f
      (Torn l.at (length l.bytes)) l.initial.files l.files

abbrev pub invariant-loop : goal.invariant-loop
invariant-loop g l = Loop g l
