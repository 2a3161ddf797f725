use Rattle.std.proofs.Common.{◌≡◌, length, arith, ◌∙◌, ◌-◌, ap, take, drop, length-drop, rules}
use Rattle.el_outside.specs.Disk.{Image, Torn}
use Rattle.el_open_files.proofs.Fronts.{length_rest}
use Rattle.el_open_files.proofs.Runs.{changes_more}
use Rattle.el_open_files.proofs.Writes.{torn_rest, over_rest, reached}
use Rattle.std.proofs.lemmas.List.{take_all}
use Rattle.std.specs.IoError.{error_kind}
use Rattle.std.specs.declared.io.ErrorKind.TheVariants as ErrorKind
use Rattle.el_open_files.proofs.moving.write_all.Goals.{in-Ok, in-Err}
use Rattle.el_open_files.proofs.moving.write_all.Goals as goal

pub returns-in-Ok-eq0-clause-changes : goal.returns-in-Ok-eq0-clause-changes
returns-in-Ok-eq0-clause-changes g c = λ told f is le.
    changes_more g.F.OpenFiles.seen g.F.OpenFiles.moment g.F.OpenFiles.left_since g.F.OpenFiles.is_named
    f (Torn c.args.at (length c.args.bytes.now)) (Torn c.in-Some.place (length (take (length c.args.bytes.now - c.loop.done) (drop c.loop.done c.args.bytes.now))))
    (Torn c.args.at (length c.args.bytes.now)) c.args.files.now c.loop.files c.write_at.new.self
    (torn_rest c.args.at (length c.args.bytes.now) c.loop.done c.in-Some.place _ c.loop.invariant.within c.in-Some.ensures.1
    (length_rest c.loop.done c.args.bytes.now))
    (c.write_at.ensures.still told) (c.loop.invariant.changes told f is le)
    (c.write_at.ensures.changes told f is (reached (g.F.OpenFiles.seen c.args.files.now f) (g.F.OpenFiles.seen c.loop.files f)
    c.args.at c.loop.done c.in-Some.place c.args.bytes.now le c.loop.invariant.within c.in-Some.ensures.1 (c.loop.invariant.written told f is le)))

pub returns-in-Err-2-clause-changes : goal.returns-in-Err-2-clause-changes
returns-in-Err-2-clause-changes g c = λ told f is le.
    changes_more g.F.OpenFiles.seen g.F.OpenFiles.moment g.F.OpenFiles.left_since g.F.OpenFiles.is_named
    f (Torn c.args.at (length c.args.bytes.now)) (Torn c.in-Some.place (length (take (length c.args.bytes.now - c.loop.done) (drop c.loop.done c.args.bytes.now))))
    (Torn c.args.at (length c.args.bytes.now)) c.args.files.now c.loop.files c.write_at.new.self
    (torn_rest c.args.at (length c.args.bytes.now) c.loop.done c.in-Some.place _ c.loop.invariant.within c.in-Some.ensures.1
    (length_rest c.loop.done c.args.bytes.now))
    (c.write_at.ensures.still told) (c.loop.invariant.changes told f is le)
    (c.write_at.ensures.changes told f is (reached (g.F.OpenFiles.seen c.args.files.now f) (g.F.OpenFiles.seen c.loop.files f)
    c.args.at c.loop.done c.in-Some.place c.args.bytes.now le c.loop.invariant.within c.in-Some.ensures.1 (c.loop.invariant.written told f is le)))

pub loop-preserved : goal.loop-preserved
loop-preserved g c = elim c.match-write_at.branch [
  | in-Ok w ↦ record {
    within = omega (arith, w.done-is, w.in-Ok.ensures.within, length_rest c.loop.done c.args.bytes.now, c.loop.invariant.within);
    written = λ told f is le. rw w.done-is (over_rest (g.F.OpenFiles.seen c.args.files.now f) (g.F.OpenFiles.seen c.loop.files f)
        (g.F.OpenFiles.seen c.write_at.new.self f) c.args.at c.loop.done w.in-Ok.n c.in-Some.place c.args.bytes.now
        (take (length c.args.bytes.now - c.loop.done) (drop c.loop.done c.args.bytes.now)) le c.loop.invariant.within c.in-Some.ensures.1
        (take_all (length c.args.bytes.now - c.loop.done) (drop c.loop.done c.args.bytes.now) (omega (arith, length-drop c.loop.done c.args.bytes.now)))
        (c.loop.invariant.written told f is le)
        (w.in-Ok.ensures.written told f is (reached (g.F.OpenFiles.seen c.args.files.now f) (g.F.OpenFiles.seen c.loop.files f)
        c.args.at c.loop.done c.in-Some.place c.args.bytes.now le c.loop.invariant.within c.in-Some.ensures.1 (c.loop.invariant.written told f is le))));
    changes = λ told f is le. changes_more g.F.OpenFiles.seen g.F.OpenFiles.moment g.F.OpenFiles.left_since g.F.OpenFiles.is_named
        f (Torn c.args.at (length c.args.bytes.now)) (Torn c.in-Some.place (length (take (length c.args.bytes.now - c.loop.done) (drop c.loop.done c.args.bytes.now))))
        (Torn c.args.at (length c.args.bytes.now)) c.args.files.now c.loop.files c.write_at.new.self
        (torn_rest c.args.at (length c.args.bytes.now) c.loop.done c.in-Some.place _ c.loop.invariant.within c.in-Some.ensures.1
        (length_rest c.loop.done c.args.bytes.now))
        (c.write_at.ensures.still told) (c.loop.invariant.changes told f is le)
        (c.write_at.ensures.changes told f is (reached (g.F.OpenFiles.seen c.args.files.now f) (g.F.OpenFiles.seen c.loop.files f)
        c.args.at c.loop.done c.in-Some.place c.args.bytes.now le c.loop.invariant.within c.in-Some.ensures.1 (c.loop.invariant.written told f is le)));
  }
  | in-Err w ↦ record {
    within = omega (arith, w.done-is, c.loop.invariant.within);
    written = λ told f is le.
        let kind : error_kind w.in-Err.e ≡ ErrorKind.Interrupted = search rules in
        rw w.done-is (ap (λ (all : Image). all f) (w.in-Err.ensures.interrupted told kind) ∙ c.loop.invariant.written told f is le);
    changes = λ told f is le. changes_more g.F.OpenFiles.seen g.F.OpenFiles.moment g.F.OpenFiles.left_since g.F.OpenFiles.is_named
        f (Torn c.args.at (length c.args.bytes.now)) (Torn c.in-Some.place (length (take (length c.args.bytes.now - c.loop.done) (drop c.loop.done c.args.bytes.now))))
        (Torn c.args.at (length c.args.bytes.now)) c.args.files.now c.loop.files c.write_at.new.self
        (torn_rest c.args.at (length c.args.bytes.now) c.loop.done c.in-Some.place _ c.loop.invariant.within c.in-Some.ensures.1
        (length_rest c.loop.done c.args.bytes.now))
        (c.write_at.ensures.still told) (c.loop.invariant.changes told f is le)
        (c.write_at.ensures.changes told f is (reached (g.F.OpenFiles.seen c.args.files.now f) (g.F.OpenFiles.seen c.loop.files f)
        c.args.at c.loop.done c.in-Some.place c.args.bytes.now le c.loop.invariant.within c.in-Some.ensures.1 (c.loop.invariant.written told f is le)));
  }
]
