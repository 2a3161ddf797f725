use Rattle.std.proofs.Common.{◌≤◌, length, subst, sym}
use Rattle.el_outside.specs.Disk.{Image, Torn}
use Rattle.el_open_files.proofs.Held.{open_at}
use Rattle.el_open_files.proofs.Runs.{changes_after}
use Rattle.el_open_files.proofs.calls.write_to.Goals as goal

pub returns-in-Some-clause-changes : goal.returns-in-Some-clause-changes
returns-in-Some-clause-changes g c = λ told.
    let here = open_at g.F.OpenFiles.tells g.F.OpenFiles.is_file g.F.OpenFiles.is_named c.make_open.new.files c.make_open.new.places
    c.args.file c.in-Some.it.now c.in-Some.ensures.open c.make_open.ensures.held in
    let le = subst (λ (all : Image). c.args.at ≤ length (all c.args.file)) (sym (c.make_open.ensures.idle told).same) (c.requires.place told) in
    changes_after g.F.OpenFiles.seen g.F.OpenFiles.moment g.F.OpenFiles.left_since g.F.OpenFiles.is_named
    c.args.file (Torn c.args.at (length c.args.bytes.now)) c.args.files.now c.make_open.new.files c.write_all.new.files (λ t u x. g.F.OpenFiles.earlier c.args.files.now t u x told)
    (c.make_open.ensures.idle told) (c.write_all.ensures.changes told c.args.file here.file le)
