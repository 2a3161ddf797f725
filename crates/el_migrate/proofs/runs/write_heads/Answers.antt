use Rattle.std.proofs.Common.{◌≡◌, ◌+◌, ◌*◌, [], length, get_or, drop, length-append, length-drop, refl, ap, sym, subst, ◌∙◌, arith}
use Rattle.el_row_formats.specs.Tables.{size_of, row_at}
use Rattle.el_redone.proofs.Runs.{goes_on, no_calls}
use Rattle.el_migrate.specs.within.Moving.{HasOldFiles}
use Rattle.el_migrate.proofs.HeadRows.{head_rows}
use Rattle.el_migrate.proofs.RowRuns.{no_run}
use Rattle.el_migrate.proofs.runs.write_heads.Goals as goal

pub loop-first-init : goal.loop-first-init
loop-first-init g c = record {
  within = omega arith;
  long = refl;
  rows = λ told hashes are. no_run c.args.t _ _ (c.requires.empty told);
  grown = λ told. (let zero_is : 0 * size_of c.args.t ≡ 0 = omega arith in zero_is) ∙ sym (ap length (c.requires.empty told));
  others = λ told f ne. refl;
  crash = λ told files each. no_calls g.D.Disk c.args.disk.now (HasOldFiles files) each;
  faults = refl;
}

pub returns-in_err-write_run-clause-crash : goal.returns-in_err-write_run-clause-crash
returns-in_err-write_run-clause-crash g c told files each =
    goes_on g.D.Disk (λ d t u i le left. g.met.D.Disk.earlier d t u i told le left) c.args.disk.now c.loop-first.disk c.write_run.new.disk (HasOldFiles files)
    (c.loop-first.invariant.crash told files each) (c.write_run.ensures.crash told files)

pub loop-first-preserved : goal.loop-first-preserved
loop-first-preserved g c =
    let was = c.loop-first.invariant in
    let t = c.args.t in
    record {
      within = omega (arith, c.min-rows.ensures, was.within);
      long = omega (arith, length-append c.put_heads.new.bytes (drop (c.min-rows.result * 8) c.loop-first.new), length-drop (c.min-rows.result * 8) c.loop-first.new, c.put_heads.ensures.long, was.long, c.requires.long, c.min-rows.ensures);
      rows = λ told hashes are.
          c.in_ok-write_run.ensures.rows told (head_rows (length c.args.links.now) hashes) (was.rows told hashes are)
          (λ j lt. subst (λ s. row_at s c.put_heads.new.bytes j ≡ get_or (head_rows (length c.args.links.now) hashes) (c.loop-first.first + j) []) (sym c.requires.heads) (c.put_heads.ensures.rows hashes are j lt));
      grown = λ told. c.in_ok-write_run.ensures.grown told;
      others = λ told f ne. c.write_run.ensures.others told f ne ∙ was.others told f ne;
      crash = λ told files each. goes_on g.D.Disk (λ d t u i le left. g.met.D.Disk.earlier d t u i told le left) c.args.disk.now c.loop-first.disk c.write_run.new.disk (HasOldFiles files)
          (was.crash told files each) (c.write_run.ensures.crash told files);
      faults = c.in_ok-write_run.ensures.cause.uncounted ∙ was.faults;
    }
