-- Images while format 2 becomes live.
use Rattle.std.specs.Prelude.{◌≡◌, ◌<◌, ◌≤◌, ℕ, List}
use Rattle.el_outside.specs.declared.disk.Disk as disk
use Rattle.el_outside.specs.Disk.{Image}
use Rattle.el_outside.specs.Moments.{LeftNow}
use Rattle.el_row_formats.specs.declared.table.Table.{Table}
use Rattle.el_rows.specs.Changes.{count_at}
use Rattle.el_redone.specs.Steps.{IsAtRest}
use Rattle.el_migrate.specs.OldIndexes.{HasOldCounts}

-- the files of both formats are these, whatever the root is
pub record HasBothFiles (files image : Image) : Type 0 where
  pub old : (f : ℕ) → f ≤ 9 → image f ≡ files f
  pub new : (f : ℕ) → 20 ≤ f → f < 30 → image f ≡ files f

-- an image of which all but the files of format 1 is as in one that a crash might have left before
pub record HasNewFiles {D : Type 0} (G : disk.Ghosts D) (old : D) (image : Image) : Type 0 where
  pub from : Image
  pub left : LeftNow G.moment G.left_since old from
  pub same : (f : ℕ) → 9 < f → image f ≡ from f

-- Format 1 is opened: its files are on the disk, with a closed gate, and have tables with these counts.
pub record IsOpenedOld {D : Type 0} (G : disk.Ghosts D) (magic pages : List ℕ) (d : D) : Type 0 where
  pub rest : IsAtRest G 0 9 d
  pub has : HasOldCounts magic (G.seen d) pages
  pub limited : (t : Table) → count_at pages t ≤ 4294967295
