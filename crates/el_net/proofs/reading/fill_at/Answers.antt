use Rattle.std.proofs.Common.{◌≡◌, length, arith, ◌∙◌, ◌-◌, ◌+◌, ap, sym}
use Rattle.std.proofs.lemmas.Bool.{eqb-true}
use borrow.Rule.Slice.PartMut.{same_len_mid}
use Rattle.el_open_files.proofs.Fronts.{front_kept, front_more, length_rest, counted_all, counted_end}
use Rattle.el_outside.proofs.Traces.{all_grow_more}
use Rattle.el_net.proofs.reading.fill_at.Goals.{in-Ok-2, then-n-eq0, else-n-eq0, in-Err}
use Rattle.el_net.proofs.reading.fill_at.Goals as goal

pub returns-in-Ok-clause-front : goal.returns-in-Ok-clause-front
returns-in-Ok-clause-front g c = λ told f is.
    front_more c.args.at c.loop.done c.in-Ok.n c.in-Some.place c.loop.buf c.read_at.new.buf _
    (g.F.Folder.bytes c.loop.folder f) (g.F.Folder.bytes c.read_at.new.self f)
    c.loop.invariant.within (omega (arith, c.in-Ok.ensures.within, c.read_at.auto.buf)) c.in-Some.ensures.1
    (c.loop.invariant.front told f is) (c.read_at.ensures.grows told f) (c.in-Ok.ensures.front told f is)

pub returns-in-Ok-clause-count : goal.returns-in-Ok-clause-count
returns-in-Ok-clause-count g c = λ told f is.
    let there = (returns-in-Ok-clause-front g c told f is).there in
    let same = same_len_mid c.loop.done (length c.loop.buf - c.loop.done) c.loop.buf c.read_at.new.buf c.read_at.auto.buf in
    elim c.if-n-eq0.branch [
      | then-n-eq0 w ↦ counted_end c.args.at c.loop.done c.in-Ok.n (length c.args.buf.now) (length (g.F.Folder.bytes c.read_at.new.self f))
          c.in-Some.place _ w.if-n-eq0.true (omega (arith, c.loop.invariant.within, c.loop.invariant.same_length)) there
          c.in-Some.ensures.1 (length_rest c.loop.done c.loop.buf ∙ ap (λ m. m - c.loop.done) c.loop.invariant.same_length)
          (c.in-Ok.ensures.end told f is w.if-n-eq0.true)
      | else-n-eq0 w ↦ counted_all c.args.at (c.loop.done + c.in-Ok.n) (length c.args.buf.now) (length (g.F.Folder.bytes c.read_at.new.self f))
          (let e : c.in-Ok.n ≡ _ = eqb-true c.in-Ok.n _ (sym w.value-is ∙ c.if-n-buf.true) in
          omega (arith, e, same, c.loop.invariant.within, c.loop.invariant.same_length)) there
    ]

pub returns-in-Ok-clause-grows : goal.returns-in-Ok-clause-grows
returns-in-Ok-clause-grows g c = λ told. all_grow_more (g.F.Folder.bytes c.args.folder.now) (g.F.Folder.bytes c.loop.folder)
    (g.F.Folder.bytes c.read_at.new.self) (c.loop.invariant.grows told) (c.read_at.ensures.grows told)

pub returns-in-Err-2-clause-grows : goal.returns-in-Err-2-clause-grows
returns-in-Err-2-clause-grows g c = λ told. all_grow_more (g.F.Folder.bytes c.args.folder.now) (g.F.Folder.bytes c.loop.folder)
    (g.F.Folder.bytes c.read_at.new.self) (c.loop.invariant.grows told) (c.read_at.ensures.grows told)

pub loop-preserved : goal.loop-preserved
loop-preserved g c =
    let same = same_len_mid c.loop.done (length c.loop.buf - c.loop.done) c.loop.buf c.read_at.new.buf c.read_at.auto.buf in
    elim c.match-read_at.branch [
      | in-Ok-2 w ↦ record {
        within = omega (arith, w.done-is, w.in-Ok.ensures.within, length_rest c.loop.done c.loop.buf, same, c.loop.invariant.within);
        same_length = same ∙ c.loop.invariant.same_length;
        front = λ told f is. rw w.done-is (front_more c.args.at c.loop.done w.in-Ok.n c.in-Some.place c.loop.buf c.read_at.new.buf _
            (g.F.Folder.bytes c.loop.folder f) (g.F.Folder.bytes c.read_at.new.self f) c.loop.invariant.within
            (omega (arith, w.in-Ok.ensures.within, c.read_at.auto.buf)) c.in-Some.ensures.1 (c.loop.invariant.front told f is)
            (c.read_at.ensures.grows told f) (w.in-Ok.ensures.front told f is));
        grows = λ told. all_grow_more (g.F.Folder.bytes c.args.folder.now) (g.F.Folder.bytes c.loop.folder)
            (g.F.Folder.bytes c.read_at.new.self) (c.loop.invariant.grows told) (c.read_at.ensures.grows told);
      }
      | in-Err w ↦ record {
        within = omega (arith, w.done-is, same, c.loop.invariant.within);
        same_length = same ∙ c.loop.invariant.same_length;
        front = λ told f is. rw w.done-is (front_kept c.args.at c.loop.done c.loop.buf _
            (g.F.Folder.bytes c.loop.folder f) (g.F.Folder.bytes c.read_at.new.self f) c.loop.invariant.within
            (c.loop.invariant.front told f is) (c.read_at.ensures.grows told f));
        grows = λ told. all_grow_more (g.F.Folder.bytes c.args.folder.now) (g.F.Folder.bytes c.loop.folder)
            (g.F.Folder.bytes c.read_at.new.self) (c.loop.invariant.grows told) (c.read_at.ensures.grows told);
      }
    ]
