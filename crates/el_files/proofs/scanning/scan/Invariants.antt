use Rattle.std.proofs.Common.{length, ◌≡◌}
use Rattle.el_outside.proofs.Calls.{HasRead}
use Rattle.el_outside.specs.declared.archive.TheConstants.{MOST_FILES}
use Rattle.el_files.specs.Appending.{AppendsOnly}
use Rattle.el_files.specs.Scanning.{IsFoundBelow}
use Rattle.el_files.specs.declared.limits.TheConstants.{PIECE_SIZE}
use Rattle.el_files.proofs.ManyFiles.{ScannedFiles, CalledFor}
use Rattle.el_files.proofs.scanning.scan.Given as goal

abbrev pub invariant-loop-file : goal.invariant-loop-file
invariant-loop-file g l = record {
  scanned : g.A.Archive.tells → ScannedFiles g.A.Archive l.magic l.fn.archive l.archive l.count l.file l.fn.found.items l.found.items;
  nodes : AppendsOnly (IsFoundBelow g.A.Archive.gave l.magic MOST_FILES) l.fn.found.items l.found.items;
  reads : HasRead g.A.Archive.tells (g.A.Archive.bytes l.fn.archive) (g.A.Archive.bytes l.archive) (g.A.Archive.faults l.fn.archive) (g.A.Archive.faults l.archive);
  calls : g.A.Archive.tells → CalledFor g.A.Archive l.fn.archive l.archive l.file;
  long : length l.buffer.items ≡ PIECE_SIZE;
}
