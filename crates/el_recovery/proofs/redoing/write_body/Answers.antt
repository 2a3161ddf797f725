use Rattle.std.proofs.Common.{◌≢◌, ◌⊎◌, ⊎_elim, ◌≤◌, ◌<◌, ◌+◌, ℕ, refl, ap, ◌∙◌, arith}
use Rattle.el_outside.specs.Disk.{Image}
use Rattle.el_row_formats.specs.declared.table.Table.{Table}
use Rattle.el_row_formats.proofs.Keys.{index_within}
use Rattle.el_pages.specs.declared.layout.Layout.{Layout}
use Rattle.el_pages.specs.Layouts.{file_of, redo_of}
use Rattle.el_recovery.proofs.Progress.{progress_none, crash_read, progress_read, one_left, next_read, row_begins, crash_row, progress_row, progress_all}
use Rattle.el_recovery.proofs.redoing.write_body.Goals as goal

-- a file beyond the span is no table's
away : (l : Layout) (t : Table) (f : ℕ) → (f < l.first) ⊎ (redo_of l ≤ f) → f ≢ file_of l t
away l t f out is = ⊎_elim (λ lt. omega (arith, is, lt)) (λ le. omega (arith, is, le, index_within t)) out

pub loop-at-init : goal.loop-at-init
loop-at-init g c = record {
  left = λ told changes stale left. progress_none g.D.Disk (λ d t u i le left. g.met.D.Disk.earlier d t u i told le left) c.args.layout.now c.args.disk.now c.args.from c.args.end changes stale left;
  beside = λ told f out. refl;
  calls = omega arith;
  far = λ le. omega (arith, le);
  faults = refl;
}

pub returns-in_err-t-clause-crash : goal.returns-in_err-t-clause-crash
returns-in_err-t-clause-crash g c told changes stale files meta file left each =
    let l = c.args.layout.now in
    let start = c.args.disk.now in
    let now = c.loop-at.disk in
    let mid = c.next_change.new.disk in
    let prog = c.loop-at.invariant.left told changes stale left in
    crash_read g.D.Disk (λ d t u i le left. g.met.D.Disk.earlier d t u i told le left) l start now mid c.loop-at.at c.args.end changes stale prog (c.next_change.ensures.crash told) files meta file each

pub returns-in_default-clause-crash : goal.returns-in_default-clause-crash
returns-in_default-clause-crash g c told changes stale files meta file left each =
    let l = c.args.layout.now in
    let start = c.args.disk.now in
    let now = c.loop-at.disk in
    let mid = c.next_change.new.disk in
    let prog = c.loop-at.invariant.left told changes stale left in
    crash_read g.D.Disk (λ d t u i le left. g.met.D.Disk.earlier d t u i told le left) l start now mid c.loop-at.at c.args.end changes stale prog (c.next_change.ensures.crash told) files meta file each

pub returns-in_default-clause-written : goal.returns-in_default-clause-written
returns-in_default-clause-written g c told changes stale left =
    let l = c.args.layout.now in
    let start = c.args.disk.now in
    let now = c.loop-at.disk in
    let mid = c.next_change.new.disk in
    let prog = c.loop-at.invariant.left told changes stale left in
    absurd (one_left g.D.Disk (λ d t u i le left. g.met.D.Disk.earlier d t u i told le left) l start now mid c.loop-at.at c.args.end changes stale prog c.loop-at-test.true (λ f. g.met.D.Disk.small now f told) _ c.next_change.new.row (c.in_ok-t.ensures.next told) c.in_default.is)

pub write_change-requires-clause-reach : goal.write_change-requires-clause-reach
write_change-requires-clause-reach g c told =
    let has = c.requires.has told in
    let changes = has.0 in
    let stale = has.1 in
    let left = has.2 in
    let l = c.args.layout.now in
    let start = c.args.disk.now in
    let now = c.loop-at.disk in
    let mid = c.next_change.new.disk in
    let prog = c.loop-at.invariant.left told changes stale left in
    let next = next_read g.D.Disk (λ d t u i le left. g.met.D.Disk.earlier d t u i told le left) l start now mid c.loop-at.at c.args.end changes stale prog c.loop-at-test.true (λ f. g.met.D.Disk.small now f told) _ c.next_change.new.row (c.in_ok-t.ensures.next told) c.in-Some.t c.in-Some.i c.in-Some.is c.size-size.result c.size-size.ensures in
    let read = progress_read g.D.Disk (λ d t u i le left. g.met.D.Disk.earlier d t u i told le left) l start now mid c.loop-at.at c.args.end changes stale prog (c.next_change.ensures.seen told) (c.next_change.ensures.crash told) in
    row_begins g.D.Disk (λ d t u i le left. g.met.D.Disk.earlier d t u i told le left) l start mid mid c.loop-at.at c.args.end changes stale read next

pub returns-in_err-write_change-clause-crash : goal.returns-in_err-write_change-clause-crash
returns-in_err-write_change-clause-crash g c told changes stale files meta file left each =
    let l = c.args.layout.now in
    let start = c.args.disk.now in
    let now = c.loop-at.disk in
    let mid = c.next_change.new.disk in
    let prog = c.loop-at.invariant.left told changes stale left in
    let next = next_read g.D.Disk (λ d t u i le left. g.met.D.Disk.earlier d t u i told le left) l start now mid c.loop-at.at c.args.end changes stale prog c.loop-at-test.true (λ f. g.met.D.Disk.small now f told) _ c.next_change.new.row (c.in_ok-t.ensures.next told) c.in-Some.t c.in-Some.i c.in-Some.is c.size-size.result c.size-size.ensures in
    let read = progress_read g.D.Disk (λ d t u i le left. g.met.D.Disk.earlier d t u i told le left) l start now mid c.loop-at.at c.args.end changes stale prog (c.next_change.ensures.seen told) (c.next_change.ensures.crash told) in
    crash_row g.D.Disk (λ d t u i le left. g.met.D.Disk.earlier d t u i told le left) l start mid c.write_change.new.disk c.loop-at.at c.args.end changes stale read next (c.write_change.ensures.crash told) files meta file each

pub loop-at-preserved : goal.loop-at-preserved
loop-at-preserved g c = record {
  left = λ told changes stale left.
      let l = c.args.layout.now in
      let start = c.args.disk.now in
      let now = c.loop-at.disk in
      let mid = c.next_change.new.disk in
      let prog = c.loop-at.invariant.left told changes stale left in
      let next = next_read g.D.Disk (λ d t u i le left. g.met.D.Disk.earlier d t u i told le left) l start now mid c.loop-at.at c.args.end changes stale prog c.loop-at-test.true (λ f. g.met.D.Disk.small now f told) _ c.next_change.new.row (c.in_ok-t.ensures.next told) c.in-Some.t c.in-Some.i c.in-Some.is c.size-size.result c.size-size.ensures in
      let read = progress_read g.D.Disk (λ d t u i le left. g.met.D.Disk.earlier d t u i told le left) l start now mid c.loop-at.at c.args.end changes stale prog (c.next_change.ensures.seen told) (c.next_change.ensures.crash told) in
      progress_row g.D.Disk (λ d t u i le left. g.met.D.Disk.earlier d t u i told le left) l start mid c.write_change.new.disk c.loop-at.at c.args.end changes stale read next (c.in_ok-write_change.ensures.written told) (c.write_change.ensures.others told)
      (c.loop-at.at + (9 + c.size-size.result)) (ap (λ s. c.loop-at.at + (9 + s)) c.size-size.ensures) (c.write_change.ensures.crash told);
  beside = λ told f out. c.write_change.ensures.others told f (away c.args.layout.now c.in-Some.t f out) ∙ ap (λ (s : Image). s f) (c.next_change.ensures.seen told) ∙ c.loop-at.invariant.beside told f out;
  calls = omega (arith, c.loop-at.invariant.calls, c.next_change.ensures.calls, c.write_change.ensures.called);
  far = λ le. omega (arith, c.loop-at-test.true, c.size-size.ensures, c.requires.narrow c.in-Some.t);
  faults = c.in_ok-write_change.ensures.cause.uncounted ∙ (c.in_ok-t.ensures.cause.uncounted ∙ c.loop-at.invariant.faults);
}

pub returns-clause-written : goal.returns-clause-written
returns-clause-written g c told changes stale left =
    let prog = c.loop-at.invariant.left told changes stale left in
    (refl, progress_all g.D.Disk (λ d t u i le left. g.met.D.Disk.earlier d t u i told le left) c.args.layout.now c.args.disk.now c.loop-at.disk c.loop-at.disk c.loop-at.at c.args.end changes stale prog c.loop-at-test.false)

pub returns-clause-crash : goal.returns-clause-crash
returns-clause-crash g c told changes stale files meta file left each = (c.loop-at.invariant.left told changes stale left).crash files meta file each

pub returns-in_err-t-clause-calls : goal.returns-in_err-t-clause-calls
returns-in_err-t-clause-calls g c le = omega (arith, c.loop-at.invariant.calls, c.loop-at-test.true, c.next_change.ensures.calls)

pub returns-in_default-clause-calls : goal.returns-in_default-clause-calls
returns-in_default-clause-calls g c le = omega (arith, c.loop-at.invariant.calls, c.loop-at-test.true, c.next_change.ensures.calls)

pub returns-in_err-write_change-clause-calls : goal.returns-in_err-write_change-clause-calls
returns-in_err-write_change-clause-calls g c le = omega (arith, c.loop-at.invariant.calls, c.loop-at-test.true, c.next_change.ensures.calls, c.write_change.ensures.called)

pub returns-clause-calls : goal.returns-clause-calls
returns-clause-calls g c le = omega (arith, c.loop-at.invariant.calls, c.loop-at.invariant.far le)

pub returns-in_err-t-clause-beside : goal.returns-in_err-t-clause-beside
returns-in_err-t-clause-beside g c told f out = ap (λ (s : Image). s f) (c.next_change.ensures.seen told) ∙ c.loop-at.invariant.beside told f out

pub returns-in_default-clause-beside : goal.returns-in_default-clause-beside
returns-in_default-clause-beside g c told f out = ap (λ (s : Image). s f) (c.next_change.ensures.seen told) ∙ c.loop-at.invariant.beside told f out

pub returns-in_err-write_change-clause-beside : goal.returns-in_err-write_change-clause-beside
returns-in_err-write_change-clause-beside g c told f out =
    c.write_change.ensures.others told f (away c.args.layout.now c.in-Some.t f out) ∙ ap (λ (s : Image). s f) (c.next_change.ensures.seen told) ∙ c.loop-at.invariant.beside told f out

pub returns-clause-beside : goal.returns-clause-beside
returns-clause-beside g c told f out = c.loop-at.invariant.beside told f out
