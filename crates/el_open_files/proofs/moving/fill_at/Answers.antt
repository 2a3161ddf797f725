use Rattle.std.proofs.Common.{length, arith, ◌∙◌, ◌-◌, ap}
use Rattle.el_outside.specs.Disk.{Image}
use borrow.Rule.Slice.PartMut.{same_len_mid}
use Rattle.el_open_files.proofs.Fronts.{front_kept, front_more, length_rest, same_grows}
use Rattle.el_open_files.proofs.Runs.{idle_more}
use Rattle.el_open_files.proofs.moving.fill_at.Goals.{in-Ok-2, in-Err}
use Rattle.el_open_files.proofs.moving.fill_at.Goals as goal

pub returns-in-Ok-clause-front : goal.returns-in-Ok-clause-front
returns-in-Ok-clause-front g c = λ told f is.
    front_more c.args.at c.loop.done c.in-Ok.n c.in-Some.place c.loop.buf c.read_at.new.buf _
    (g.F.OpenFiles.seen c.loop.files f) (g.F.OpenFiles.seen c.read_at.new.self f)
    c.loop.invariant.within (omega (arith, c.in-Ok.ensures.within, c.read_at.auto.buf)) c.in-Some.ensures.1
    (c.loop.invariant.front told f is)
    (same_grows (g.F.OpenFiles.seen c.loop.files f) (g.F.OpenFiles.seen c.read_at.new.self f)
    (ap (λ (all : Image). all f) (c.read_at.ensures.idle told).same)) (c.in-Ok.ensures.front told f is)

pub loop-preserved : goal.loop-preserved
loop-preserved g c =
    let same = same_len_mid c.loop.done (length c.loop.buf - c.loop.done) c.loop.buf c.read_at.new.buf c.read_at.auto.buf in
    elim c.match-read_at.branch [
      | in-Ok-2 w ↦ record {
        within = omega (arith, w.done-is, w.in-Ok.ensures.within, length_rest c.loop.done c.loop.buf, same, c.loop.invariant.within);
        same_length = same ∙ c.loop.invariant.same_length;
        front = λ told f is. rw w.done-is (front_more c.args.at c.loop.done w.in-Ok.n c.in-Some.place c.loop.buf c.read_at.new.buf _
            (g.F.OpenFiles.seen c.loop.files f) (g.F.OpenFiles.seen c.read_at.new.self f) c.loop.invariant.within
            (omega (arith, w.in-Ok.ensures.within, c.read_at.auto.buf)) c.in-Some.ensures.1 (c.loop.invariant.front told f is)
            (same_grows (g.F.OpenFiles.seen c.loop.files f) (g.F.OpenFiles.seen c.read_at.new.self f)
            (ap (λ (all : Image). all f) (c.read_at.ensures.idle told).same)) (w.in-Ok.ensures.front told f is));
        idle = λ told. idle_more g.F.OpenFiles.seen g.F.OpenFiles.moment g.F.OpenFiles.left_since g.F.OpenFiles.is_named
            c.args.files.now c.loop.files c.read_at.new.self (λ t u x. g.F.OpenFiles.earlier c.args.files.now t u x told)
            (c.loop.invariant.idle told) (c.read_at.ensures.idle told);
      }
      | in-Err w ↦ record {
        within = omega (arith, w.done-is, same, c.loop.invariant.within);
        same_length = same ∙ c.loop.invariant.same_length;
        front = λ told f is. rw w.done-is (front_kept c.args.at c.loop.done c.loop.buf _
            (g.F.OpenFiles.seen c.loop.files f) (g.F.OpenFiles.seen c.read_at.new.self f) c.loop.invariant.within
            (c.loop.invariant.front told f is)
            (same_grows (g.F.OpenFiles.seen c.loop.files f) (g.F.OpenFiles.seen c.read_at.new.self f)
            (ap (λ (all : Image). all f) (c.read_at.ensures.idle told).same)));
        idle = λ told. idle_more g.F.OpenFiles.seen g.F.OpenFiles.moment g.F.OpenFiles.left_since g.F.OpenFiles.is_named
            c.args.files.now c.loop.files c.read_at.new.self (λ t u x. g.F.OpenFiles.earlier c.args.files.now t u x told)
            (c.loop.invariant.idle told) (c.read_at.ensures.idle told);
      }
    ]
