use Rattle.std.proofs.Common.{◌≡◌, ◌≢◌, ◌≤◌, ◌*◌, ◌-◌, ℕ, List, length}
use Rattle.el_outside.specs.Disk.{Image}
use Rattle.el_row_formats.specs.Tables.{size_of}
use Rattle.el_row_formats.specs.OldRowBytes.{old_size_of}
use Rattle.el_tables.specs.ChainLists.{ListedBlock}
use Rattle.el_tables.specs.Lists.{Lists}
use Rattle.el_tables.specs.Tables.{HeadCounts}
use Rattle.el_redone.specs.Steps.{EachNow, Leaves}
use Rattle.el_pages.specs.declared.layout.TheConstants.{FORMAT_1, FORMAT_2}
use Rattle.el_pages.specs.Layouts.{file_of}
use Rattle.el_migrate.specs.within.Moving.{IsMoved, HeadsOf, HasOnlyRows, HasOldRows, HasOldFiles, new_rows}
use Rattle.el_migrate.proofs.runs.move_table.Given as goal

abbrev pub invariant-loop-first : goal.invariant-loop-first
invariant-loop-first g v = record {
  within : v.first ≤ v.count;
  many : length v.links ≡ length v.fn.links;
  old_long : length v.old ≡ length v.fn.old;
  long : length v.new ≡ length v.fn.new;
  rows : g.D.Disk.tells → (counts : HeadCounts) (bs : List ListedBlock) (l : Lists) → IsMoved v.t
      → HasOldRows counts bs l v.t v.count (g.D.Disk.seen v.fn.disk (file_of FORMAT_1 v.t))
      → v.count * old_size_of v.t ≤ length (g.D.Disk.seen v.fn.disk (file_of FORMAT_1 v.t)) → HeadsOf v.t l 0 v.fn.links
      → HeadsOf v.t l v.first v.links × HasOnlyRows v.t (g.D.Disk.seen v.disk (file_of FORMAT_2 v.t)) (new_rows (length v.fn.links) bs l v.t) v.first;
  grown : g.D.Disk.tells → v.first * size_of v.t ≡ length (g.D.Disk.seen v.disk (file_of FORMAT_2 v.t));
  others : g.D.Disk.tells → (f : ℕ) → f ≢ file_of FORMAT_2 v.t → g.D.Disk.seen v.disk f ≡ g.D.Disk.seen v.fn.disk f;
  crash : g.D.Disk.tells → (files : Image) → EachNow g.D.Disk (HasOldFiles files) v.fn.disk → Leaves g.D.Disk (HasOldFiles files) v.fn.disk v.disk;
  faults : g.D.Disk.faults v.disk ≡ g.D.Disk.faults v.fn.disk;
}

abbrev pub decreases-loop-first : goal.decreases-loop-first
decreases-loop-first g v = v.count - v.first
