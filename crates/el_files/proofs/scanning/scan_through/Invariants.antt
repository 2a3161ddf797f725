use Rattle.std.proofs.Common.{◌+◌, ◌-◌, ◌*◌, ◌≤◌}
use Rattle.el_outside.specs.Seen.{WasSeen}
use Rattle.el_outside.proofs.Calls.{HasRead}
use Rattle.el_files.specs.Appending.{AppendsOnly}
use Rattle.el_files.specs.Scanning.{IsFoundIn}
use Rattle.el_files.specs.within.Walking.{ScanIsAt}
use Rattle.el_files.proofs.scanning.scan_through.Given as goal

abbrev pub invariant-loop-at : goal.invariant-loop-at
invariant-loop-at g l = record {
  walked : g.A.Archive.tells
      → ScanIsAt (WasSeen g.A.Archive (g.A.Archive.bytes l.initial.archive) (g.A.Archive.bytes l.archive) l.file) l.magic l.file l.size l.at l.initial.found.items l.found.items;
  nodes : AppendsOnly (IsFoundIn g.A.Archive.gave l.magic l.file) l.initial.found.items l.found.items;
  reads : HasRead g.A.Archive.tells (g.A.Archive.bytes l.initial.archive) (g.A.Archive.bytes l.archive) (g.A.Archive.faults l.initial.archive) (g.A.Archive.faults l.archive);
  within : l.at ≤ l.size;
  going : l.at + 89 ≤ l.size → 65449 * g.A.Archive.calls l.archive ≤ 65449 * g.A.Archive.calls l.initial.archive + l.at;
  calls : 65449 * g.A.Archive.calls l.archive ≤ 65449 * g.A.Archive.calls l.initial.archive + (l.size + 65449);
}

abbrev pub decreases-loop-at : goal.decreases-loop-at
decreases-loop-at g l = l.size - l.at
