use Rattle.std.proofs.Common.{◌≡◌, ◌≢◌, ◌⊎◌, inl, inr, ℕ, ◌<◌, ◌≤◌, ◌+◌, [], length, take, drop, map, refl, sym, ap, ◌∙◌, arith}
use Rattle.std.proofs.lemmas.List.{drop_all}
use Rattle.el_row_formats.specs.declared.table.Table.{Table}
use Rattle.el_row_formats.proofs.Keys.{index_within}
use Rattle.el_redone.specs.Redone.{overlaid, into}
use Rattle.el_redone.specs.Steps.{WillBe}
use Rattle.el_redone.proofs.Runs.{no_calls, goes_on}
use Rattle.el_pages.specs.declared.layout.TheConstants.{FORMAT_2}
use Rattle.el_pages.specs.Layouts.{file_of}
use Rattle.el_pages.specs.Records.{write_of}
use Rattle.el_pages.proofs.GatheredRuns.{paid_run, paid_calls}
use Rattle.el_pages.proofs.Rewrites.{run_covered, run_reach, next_fits, next_gives}
use Rattle.el_pages.proofs.writing.write_rows.Goals as goal

-- a file beside those of the rows is no table's
not_table : (t : Table) (f : ℕ) → (f < 20) ⊎ (29 ≤ f) → f ≢ file_of FORMAT_2 t
not_table t f (inl lt) is = omega (arith, is, lt)
not_table t f (inr le) is = omega (arith, is, le, index_within t)

pub loop-k-init : goal.loop-k-init
loop-k-init g c = record {
  within = omega arith;
  same = refl;
  fits = λ told f low lt. c.requires.fits told f low lt;
  gives = λ told f low lt. refl;
  beside = λ told f at. refl;
  crash = λ told files ws meta file is each. no_calls g.D.Disk c.args.disk.now (WillBe 20 29 files ws file) each;
  calls = omega arith;
  faults = refl;
}

pub loop-k-preserved : goal.loop-k-preserved
loop-k-preserved g c =
    let was = c.loop-k.invariant in
    let run = c.gather-run.result in
    let changes = c.args.sealed.now.changes in
    record {
      within = omega (arith, c.gather-run.ensures.rows.within);
      same = c.gather-run.ensures.same ∙ was.same;
      fits = λ told. next_fits changes c.loop-k.k run.table run.first run.rows (take run.used c.gather-run.new.buffer) c.gather-run.ensures.some c.gather-run.ensures.rows.long c.gather-run.ensures.rows.each (g.D.Disk.seen c.loop-k.disk) (was.fits told) (g.D.Disk.seen c.write_run.new.disk)
          (c.in_ok-write_run.ensures.written told) (c.write_run.ensures.others told);
      gives = λ told f low lt. next_gives changes c.loop-k.k run.table run.first run.rows (take run.used c.gather-run.new.buffer) c.gather-run.ensures.some c.gather-run.ensures.rows.long c.gather-run.ensures.rows.each (g.D.Disk.seen c.loop-k.disk) (was.fits told) (g.D.Disk.seen c.write_run.new.disk)
          (c.in_ok-write_run.ensures.written told) (c.write_run.ensures.others told) f low lt ∙ was.gives told f low lt;
      beside = λ told f at. c.write_run.ensures.others told f (not_table run.table f at) ∙ was.beside told f at;
      crash = λ told files ws meta file is each. goes_on g.D.Disk (λ d t u i le left. g.met.D.Disk.earlier d t u i told le left) c.args.disk.now c.loop-k.disk c.write_run.new.disk (WillBe 20 29 files ws file)
          (was.crash told files ws meta file is each)
          (c.write_run.ensures.crash told files ws file (run_covered changes c.loop-k.k run.table run.first run.rows (take run.used c.gather-run.new.buffer) c.gather-run.ensures.some c.gather-run.ensures.rows.long c.gather-run.ensures.rows.each meta ws is));
      calls = paid_run changes c.loop-k.k run.table run.first run.rows (take run.used c.gather-run.new.buffer) c.gather-run.ensures.rows (length c.args.buffer.now) (g.D.Disk.calls c.args.disk.now) (g.D.Disk.calls c.loop-k.disk) (g.D.Disk.calls c.write_run.new.disk)
          c.requires.big c.gather-run.ensures.some (λ bytes next. omega (arith, c.gather-run.ensures.whole bytes next, c.loop-k.invariant.same, c.gather-run.ensures.used)) c.loop-k.invariant.calls c.write_run.ensures.called;
      faults = c.in_ok-write_run.ensures.cause.uncounted ∙ was.faults;
    }

pub write_run-requires-clause-reach : goal.write_run-requires-clause-reach
write_run-requires-clause-reach g c told =
    let run = c.gather-run.result in
    run_reach c.args.sealed.now.changes c.loop-k.k run.table run.first run.rows (take run.used c.gather-run.new.buffer) c.gather-run.ensures.some c.gather-run.ensures.rows.long c.gather-run.ensures.rows.each (g.D.Disk.seen c.loop-k.disk) (c.loop-k.invariant.fits told)

pub returns-in_err-write_run-clause-crash : goal.returns-in_err-write_run-clause-crash
returns-in_err-write_run-clause-crash g c told files ws meta file is each =
    let run = c.gather-run.result in
    goes_on g.D.Disk (λ d t u i le left. g.met.D.Disk.earlier d t u i told le left) c.args.disk.now c.loop-k.disk c.write_run.new.disk (WillBe 20 29 files ws file)
    (c.loop-k.invariant.crash told files ws meta file is each)
    (c.write_run.ensures.crash told files ws file (run_covered c.args.sealed.now.changes c.loop-k.k run.table run.first run.rows (take run.used c.gather-run.new.buffer) c.gather-run.ensures.some c.gather-run.ensures.rows.long c.gather-run.ensures.rows.each meta ws is))

pub returns-clause-written : goal.returns-clause-written
returns-clause-written g c told f low lt =
    let none : drop c.loop-k.k c.args.sealed.now.changes ≡ [] = drop_all c.loop-k.k c.args.sealed.now.changes (omega arith) in
    ap (λ cs. overlaid (into f (map (write_of FORMAT_2) cs)) (g.D.Disk.seen c.loop-k.disk f)) (sym none) ∙ c.loop-k.invariant.gives told f low lt

pub returns-in_err-write_run-clause-calls : goal.returns-in_err-write_run-clause-calls
returns-in_err-write_run-clause-calls g c =
    let run = c.gather-run.result in
    let changes = c.args.sealed.now.changes in
    paid_calls (length c.args.buffer.now) changes (g.D.Disk.calls c.args.disk.now) (g.D.Disk.calls c.write_run.new.disk) (c.loop-k.k + run.rows) c.requires.big
    (paid_run changes c.loop-k.k run.table run.first run.rows (take run.used c.gather-run.new.buffer) c.gather-run.ensures.rows (length c.args.buffer.now) (g.D.Disk.calls c.args.disk.now) (g.D.Disk.calls c.loop-k.disk) (g.D.Disk.calls c.write_run.new.disk)
    c.requires.big c.gather-run.ensures.some (λ bytes next. omega (arith, c.gather-run.ensures.whole bytes next, c.loop-k.invariant.same, c.gather-run.ensures.used)) c.loop-k.invariant.calls c.write_run.ensures.called)

pub returns-clause-calls : goal.returns-clause-calls
returns-clause-calls g c =
    paid_calls (length c.args.buffer.now) c.args.sealed.now.changes (g.D.Disk.calls c.args.disk.now) (g.D.Disk.calls c.loop-k.disk) c.loop-k.k c.requires.big c.loop-k.invariant.calls

pub returns-in_err-write_run-clause-beside : goal.returns-in_err-write_run-clause-beside
returns-in_err-write_run-clause-beside g c told f at =
    c.write_run.ensures.others told f (not_table c.gather-run.result.table f at) ∙ c.loop-k.invariant.beside told f at

pub returns-clause-beside : goal.returns-clause-beside
returns-clause-beside g c told f at = c.loop-k.invariant.beside told f at
