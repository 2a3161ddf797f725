use Rattle.std.proofs.Common.{◌≡◌, ◌≤◌, ◌+◌, ◌*◌, length, refl, ap, sym, subst, ◌∙◌, arith}
use Rattle.el_row_formats.specs.Tables.{size_of}
use Rattle.el_row_formats.specs.OldRowBytes.{old_size_of}
use Rattle.el_redone.proofs.Runs.{goes_on, no_calls}
use Rattle.el_pages.specs.declared.layout.TheConstants.{FORMAT_1, FORMAT_2}
use Rattle.el_pages.specs.Layouts.{file_of}
use Rattle.el_migrate.specs.within.Moving.{HasOnlyRows, HasOldRows, HasOldFiles, HeadsOf, new_rows}
use Rattle.el_migrate.proofs.RowRuns.{no_run, other_file}
use Rattle.el_migrate.proofs.runs.move_table.Goals as goal

pub loop-first-init : goal.loop-first-init
loop-first-init g c = record {
  within = omega arith;
  many = refl;
  old_long = refl;
  long = refl;
  rows = λ told counts bs l moved had reach heads. (heads, no_run c.args.t _ _ (c.requires.empty told));
  grown = λ told. (let zero_is : 0 * size_of c.args.t ≡ 0 = omega arith in zero_is) ∙ sym (ap length (c.requires.empty told));
  others = λ told f ne. refl;
  crash = λ told files each. no_calls g.D.Disk c.args.disk.now (HasOldFiles files) each;
  faults = refl;
}

pub loop-first-preserved : goal.loop-first-preserved
loop-first-preserved g c =
    let was = c.loop-first.invariant in
    let t = c.args.t in
    let n = c.args.count in
    let rows = c.min-rows.result in
    record {
      within = omega (arith, c.min-rows.ensures, was.within);
      many = c.move_run.ensures.many ∙ was.many;
      old_long = c.move_run.ensures.old_long ∙ was.old_long;
      long = c.move_run.ensures.long ∙ was.long;
      rows = λ told counts bs l moved had reach heads.
          let before = was.rows told counts bs l moved had reach heads in
          let same = was.others told (file_of FORMAT_1 t) (other_file t) in
          let had_now = subst (λ file. HasOldRows counts bs l t n file) (sym same) had in
          let reach_now = subst (λ file. n * old_size_of t ≤ length file) (sym same) reach in
          let rows_now = subst (λ k. HasOnlyRows t (g.D.Disk.seen c.loop-first.disk (file_of FORMAT_2 t)) (new_rows k bs l t) c.loop-first.first) (sym was.many) before.1 in
          let done = c.in_ok-move_run.ensures.rows told counts bs l n moved had_now (omega (arith, c.min-rows.ensures, was.within)) reach_now before.0 rows_now in
          (done.0, subst (λ k. HasOnlyRows t (g.D.Disk.seen c.move_run.new.disk (file_of FORMAT_2 t)) (new_rows k bs l t) (c.loop-first.first + rows)) was.many done.1);
      grown = λ told. c.in_ok-move_run.ensures.grown told;
      others = λ told f ne. c.move_run.ensures.others told f ne ∙ was.others told f ne;
      crash = λ told files each. goes_on g.D.Disk (λ d t u i le left. g.met.D.Disk.earlier d t u i told le left) c.args.disk.now c.loop-first.disk c.move_run.new.disk (HasOldFiles files)
          (was.crash told files each) (c.move_run.ensures.crash told files);
      faults = c.in_ok-move_run.ensures.cause.uncounted ∙ was.faults;
    }

pub returns-in_err-move_run-clause-crash : goal.returns-in_err-move_run-clause-crash
returns-in_err-move_run-clause-crash g c told files each =
    goes_on g.D.Disk (λ d t u i le left. g.met.D.Disk.earlier d t u i told le left) c.args.disk.now c.loop-first.disk c.move_run.new.disk (HasOldFiles files)
    (c.loop-first.invariant.crash told files each) (c.move_run.ensures.crash told files)

pub returns-in_err-move_run-clause-others : goal.returns-in_err-move_run-clause-others
returns-in_err-move_run-clause-others g c told f ne = c.move_run.ensures.others told f ne ∙ c.loop-first.invariant.others told f ne

pub returns-clause-rows : goal.returns-clause-rows
returns-clause-rows g c told counts bs l moved had reach heads =
    let all : c.loop-first.first ≡ c.args.count = omega (arith, c.loop-first.invariant.within, c.loop-first-test.false) in
    subst (λ k. HeadsOf c.args.t l k c.loop-first.links × HasOnlyRows c.args.t (g.D.Disk.seen c.loop-first.disk (file_of FORMAT_2 c.args.t)) (new_rows (length c.args.links.now) bs l c.args.t) k) all
    (c.loop-first.invariant.rows told counts bs l moved had reach heads)

pub returns-clause-grown : goal.returns-clause-grown
returns-clause-grown g c told =
    let all : c.loop-first.first ≡ c.args.count = omega (arith, c.loop-first.invariant.within, c.loop-first-test.false) in
    ap (λ k. k * size_of c.args.t) (sym all) ∙ c.loop-first.invariant.grown told
