use Rattle.std.proofs.Common.{◌≡◌, ◌≢◌, List, ℕ, refl, ap, sym, subst, ◌∙◌, arith}
use Rattle.el_outside.specs.Disk.{Image, over}
use Rattle.el_redone.specs.Steps.{WillBe}
use Rattle.el_redone.proofs.Runs.{stays, goes_on}
use Rattle.el_pages.specs.Layouts.{redo_of}
use Rattle.el_pages.specs.Records.{writes_of}
use Rattle.el_recovery.proofs.Finishes.{meta_read, meta_covered}
use Rattle.el_recovery.proofs.finishing.write_meta.Goals as goal

pub returns-in_err-read_whole-clause-crash : goal.returns-in_err-read_whole-clause-crash
returns-in_err-read_whole-clause-crash g c told meta changes files file is room each =
    let l = c.args.layout.now in
    let old = c.args.disk.now in
    let mid = c.read_whole.new.disk in
    let P : Image → Type 0 = WillBe l.first (redo_of l) files (writes_of l meta changes) file in
    stays g.D.Disk old mid P (c.read_whole.ensures.time told) (c.read_whole.ensures.crash told) each

pub returns-then-not-branch-clause-crash : goal.returns-then-not-branch-clause-crash
returns-then-not-branch-clause-crash g c told meta changes files file is room each =
    let l = c.args.layout.now in
    let old = c.args.disk.now in
    let mid = c.read_whole.new.disk in
    let P : Image → Type 0 = WillBe l.first (redo_of l) files (writes_of l meta changes) file in
    stays g.D.Disk old mid P (c.read_whole.ensures.time told) (c.read_whole.ensures.crash told) each

pub returns-in_err-write_covered-clause-crash : goal.returns-in_err-write_covered-clause-crash
returns-in_err-write_covered-clause-crash g c told meta changes files file is room each =
    let l = c.args.layout.now in
    let old = c.args.disk.now in
    let mid = c.read_whole.new.disk in
    let P : Image → Type 0 = WillBe l.first (redo_of l) files (writes_of l meta changes) file in
    let read = meta_read l (g.D.Disk.seen c.args.disk.now) c.span-span.result.redo _ _ c.read_whole.new.buf c.span-span.ensures.redo c.requires.long (c.in_ok-read_whole.ensures.whole told) room in
    goes_on g.D.Disk (λ d t u i le left. g.met.D.Disk.earlier d t u i told le left) old mid c.write_covered.new.disk P (stays g.D.Disk old mid P (c.read_whole.ensures.time told) (c.read_whole.ensures.crash told) each)
    (meta_covered g.D.Disk l meta changes files file c.span-span.result.first c.span-span.result.redo c.read_whole.new.buf mid c.write_covered.new.disk c.span-span.ensures.first c.span-span.ensures.redo (read.1 ∙ is)
    (c.write_covered.ensures.crash told files (writes_of l meta changes) file))

pub returns-clause-crash : goal.returns-clause-crash
returns-clause-crash g c told meta changes files file is room each =
    let l = c.args.layout.now in
    let old = c.args.disk.now in
    let mid = c.read_whole.new.disk in
    let P : Image → Type 0 = WillBe l.first (redo_of l) files (writes_of l meta changes) file in
    let read = meta_read l (g.D.Disk.seen c.args.disk.now) c.span-span.result.redo _ _ c.read_whole.new.buf c.span-span.ensures.redo c.requires.long (c.in_ok-read_whole.ensures.whole told) room in
    goes_on g.D.Disk (λ d t u i le left. g.met.D.Disk.earlier d t u i told le left) old mid c.write_covered.new.disk P (stays g.D.Disk old mid P (c.read_whole.ensures.time told) (c.read_whole.ensures.crash told) each)
    (meta_covered g.D.Disk l meta changes files file c.span-span.result.first c.span-span.result.redo c.read_whole.new.buf mid c.write_covered.new.disk c.span-span.ensures.first c.span-span.ensures.redo (read.1 ∙ is)
    (c.write_covered.ensures.crash told files (writes_of l meta changes) file))

pub returns-then-not-branch-clause-written : goal.returns-then-not-branch-clause-written
returns-then-not-branch-clause-written g c told room =
    let l = c.args.layout.now in
    let is_true = (meta_read l (g.D.Disk.seen c.args.disk.now) c.span-span.result.redo _ _ c.read_whole.new.buf c.span-span.ensures.redo c.requires.long (c.in_ok-read_whole.ensures.whole told) room).0 in
    let is_false = c.if-not-branch.true in
    absurd (cc (is_true, is_false))

pub returns-clause-written : goal.returns-clause-written
returns-clause-written g c told room =
    let l = c.args.layout.now in
    let seen = g.D.Disk.seen c.args.disk.now in
    let buf = c.read_whole.new.buf in
    let read = meta_read l (g.D.Disk.seen c.args.disk.now) c.span-span.result.redo _ _ c.read_whole.new.buf c.span-span.ensures.redo c.requires.long (c.in_ok-read_whole.ensures.whole told) room in (
      refl,
      subst (λ f. g.D.Disk.seen c.write_covered.new.disk f ≡ over (g.D.Disk.seen c.read_whole.new.disk f) 0 buf) c.span-span.ensures.first (c.in_ok-write_covered.ensures.written told)
          ∙ ap (λ (s : Image). over (s l.first) 0 buf) (c.read_whole.ensures.seen told)
          ∙ ap (λ (b : List ℕ). over (seen l.first) 0 b) read.1,
    )

pub returns-in_err-write_covered-clause-others : goal.returns-in_err-write_covered-clause-others
returns-in_err-write_covered-clause-others g c told f ne =
    c.write_covered.ensures.others told f (subst (λ x. f ≢ x) (sym c.span-span.ensures.first) ne) ∙ ap (λ (s : Image). s f) (c.read_whole.ensures.seen told)

pub returns-clause-others : goal.returns-clause-others
returns-clause-others g c told f ne =
    c.write_covered.ensures.others told f (subst (λ x. f ≢ x) (sym c.span-span.ensures.first) ne) ∙ ap (λ (s : Image). s f) (c.read_whole.ensures.seen told)

pub returns-in_err-read_whole-clause-calls : goal.returns-in_err-read_whole-clause-calls
returns-in_err-read_whole-clause-calls g c = omega (arith, c.read_whole.ensures.called)

pub returns-then-not-branch-clause-calls : goal.returns-then-not-branch-clause-calls
returns-then-not-branch-clause-calls g c = omega (arith, c.read_whole.ensures.called)

pub returns-in_err-write_covered-clause-calls : goal.returns-in_err-write_covered-clause-calls
returns-in_err-write_covered-clause-calls g c = omega (arith, c.read_whole.ensures.called, c.write_covered.ensures.called)

pub returns-clause-calls : goal.returns-clause-calls
returns-clause-calls g c = omega (arith, c.read_whole.ensures.called, c.write_covered.ensures.called)
