use Rattle.std.proofs.Common.{arith}
use Rattle.el_outside.specs.Seen.{seen}
use Rattle.el_outside.proofs.Traces.{all_grow_none}
use Rattle.el_files.proofs.Appends.{on_err}
use Rattle.el_files.proofs.Scans.{scanned_nothing, seen_now}
use Rattle.el_files.proofs.scanning.scan_file.Goals as goal

pub returns-in_err-buffer-clause-front : goal.returns-in_err-buffer-clause-front
returns-in_err-buffer-clause-front g c = λ t.
    let a = g.A.Archive in
    on_err _ _ (scanned_nothing a (a.bytes c.args.archive.now) c.args.archive.now c.args.magic c.args.file c.args.found.now.items (all_grow_none _))

pub returns-in_err-buffer-clause-calls : goal.returns-in_err-buffer-clause-calls
returns-in_err-buffer-clause-calls g c = λ t.
    let a = g.A.Archive in
    (seen a c.args.archive.now c.args.file, seen_now a (a.bytes c.args.archive.now) c.args.archive.now c.args.file (all_grow_none _), omega arith)
