use Rattle.std.proofs.Common.{◌≡◌, ◌⊎◌, ◌<◌, ◌≤◌, ◌-◌, ℕ, List, length, drop, map}
use Rattle.el_outside.specs.Disk.{Image}
use Rattle.el_redone.specs.Redone.{Write, overlaid, WritesFit, into}
use Rattle.el_redone.specs.Steps.{EachNow, Leaves, WillBe}
use Rattle.el_pages.specs.declared.layout.TheConstants.{FORMAT_2}
use Rattle.el_pages.specs.Records.{write_of, writes_of}
use Rattle.el_pages.proofs.GatheredRuns.{ArePaid}
use Rattle.el_pages.proofs.writing.write_rows.Given as goal

abbrev pub invariant-loop-k : goal.invariant-loop-k
invariant-loop-k g l = record {
  within : l.k ≤ length l.sealed.changes;
  same : length l.buffer ≡ length l.fn.buffer;
  fits : g.D.Disk.tells → (f : ℕ) → 20 ≤ f → f < 29 → WritesFit (into f (map (write_of FORMAT_2) (drop l.k l.sealed.changes))) (length (g.D.Disk.seen l.disk f));
  gives : g.D.Disk.tells → (f : ℕ) → 20 ≤ f → f < 29 → overlaid (into f (map (write_of FORMAT_2) (drop l.k l.sealed.changes))) (g.D.Disk.seen l.disk f)
      ≡ overlaid (into f (map (write_of FORMAT_2) l.sealed.changes)) (g.D.Disk.seen l.fn.disk f);
  beside : g.D.Disk.tells → (f : ℕ) → (f < 20) ⊎ (29 ≤ f) → g.D.Disk.seen l.disk f ≡ g.D.Disk.seen l.fn.disk f;
  crash : g.D.Disk.tells → (files : Image) (ws : List Write) (meta record_file : List ℕ) → ws ≡ writes_of FORMAT_2 meta l.sealed.changes
      → EachNow g.D.Disk (WillBe 20 29 files ws record_file) l.fn.disk → Leaves g.D.Disk (WillBe 20 29 files ws record_file) l.fn.disk l.disk;
  calls : ArePaid (length l.fn.buffer) l.sealed.changes (g.D.Disk.calls l.fn.disk) (g.D.Disk.calls l.disk) l.k;
  faults : g.D.Disk.faults l.disk ≡ g.D.Disk.faults l.fn.disk;
}

abbrev pub decreases-loop-k : goal.decreases-loop-k
decreases-loop-k g l = length l.sealed.changes - l.k
