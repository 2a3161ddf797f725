use Rattle.std.proofs.Common.{◌≡◌, ◌≢◌, ◌≤◌, ◌*◌, ◌-◌, ℕ, List, length}
use Rattle.el_base.specs.declared.hash.Hash32.{Hash32}
use Rattle.el_outside.specs.Disk.{Image}
use Rattle.el_row_formats.specs.Tables.{size_of}
use Rattle.el_redone.specs.Steps.{EachNow, Leaves}
use Rattle.el_pages.specs.declared.layout.TheConstants.{FORMAT_2}
use Rattle.el_pages.specs.Layouts.{file_of}
use Rattle.el_migrate.specs.within.Moving.{AreHeads, HasOnlyRows, HasOldFiles}
use Rattle.el_migrate.proofs.HeadRows.{head_rows}
use Rattle.el_migrate.proofs.runs.write_heads.Given as goal

abbrev pub invariant-loop-first : goal.invariant-loop-first
invariant-loop-first g v = record {
  within : v.first ≤ length v.links;
  long : length v.new ≡ length v.fn.new;
  rows : g.D.Disk.tells → (hashes : List Hash32) → AreHeads v.links hashes
      → HasOnlyRows v.t (g.D.Disk.seen v.disk (file_of FORMAT_2 v.t)) (head_rows (length v.links) hashes) v.first;
  grown : g.D.Disk.tells → v.first * size_of v.t ≡ length (g.D.Disk.seen v.disk (file_of FORMAT_2 v.t));
  others : g.D.Disk.tells → (f : ℕ) → f ≢ file_of FORMAT_2 v.t → g.D.Disk.seen v.disk f ≡ g.D.Disk.seen v.fn.disk f;
  crash : g.D.Disk.tells → (files : Image) → EachNow g.D.Disk (HasOldFiles files) v.fn.disk → Leaves g.D.Disk (HasOldFiles files) v.fn.disk v.disk;
  faults : g.D.Disk.faults v.disk ≡ g.D.Disk.faults v.fn.disk;
}

abbrev pub decreases-loop-first : goal.decreases-loop-first
decreases-loop-first g v = length v.links - v.first
