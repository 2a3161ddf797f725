use Rattle.std.proofs.Common.{◌≡◌, ⊎_elim, refl, ap, ◌∙◌, arith}
use Rattle.std.proofs.lemmas.Bool.{cases_eq}
use Rattle.el_redone.proofs.Runs.{goes_on, no_calls}
use Rattle.el_migrate.specs.within.Rooting.{HasNewFiles}
use Rattle.el_migrate.proofs.Images.{new_self, new_again}
use Rattle.el_migrate.proofs.opening.drop_old.Goals as goal

pub loop-file-init : goal.loop-file-init
loop-file-init g c = record {
  empty = λ told f lt. absurd (omega (arith, lt));
  others = λ told f high. refl;
  crash = λ told. no_calls g.D.Disk c.args.disk.now (HasNewFiles g.D.Disk c.args.disk.now) (new_self g.D.Disk c.args.disk.now);
  calls = omega arith;
  faults = refl;
}

pub loop-file-preserved : goal.loop-file-preserved
loop-file-preserved g c =
    let was = c.loop-file.invariant in
    record {
      empty = λ told f lt. ⊎_elim
          (λ (is : f ≡ c.loop-file.file). ap (g.D.Disk.seen c.drop_file.new.disk) is ∙ c.in_ok-drop_file.ensures.empty told)
          (λ ne. c.drop_file.ensures.others told f ne ∙ was.empty told f (omega (arith, lt, ne)))
          (cases_eq f c.loop-file.file);
      others = λ told f high. c.drop_file.ensures.others told f (λ is. omega (arith, is, high, c.loop-file-test.true)) ∙ was.others told f high;
      crash = λ told. goes_on g.D.Disk (λ d t u i le left. g.met.D.Disk.earlier d t u i told le left) c.args.disk.now c.loop-file.disk c.drop_file.new.disk (HasNewFiles g.D.Disk c.args.disk.now) (was.crash told)
          (λ now. new_again g.D.Disk c.args.disk.now c.loop-file.disk c.drop_file.new.disk now (c.drop_file.ensures.crash told));
      calls = omega (arith, c.drop_file.ensures.calls, was.calls);
      faults = c.in_ok-drop_file.ensures.cause.uncounted ∙ was.faults;
    }

pub returns-in_err-drop_file-clause-crash : goal.returns-in_err-drop_file-clause-crash
returns-in_err-drop_file-clause-crash g c told =
    goes_on g.D.Disk (λ d t u i le left. g.met.D.Disk.earlier d t u i told le left) c.args.disk.now c.loop-file.disk c.drop_file.new.disk (HasNewFiles g.D.Disk c.args.disk.now) (c.loop-file.invariant.crash told)
    (λ now. new_again g.D.Disk c.args.disk.now c.loop-file.disk c.drop_file.new.disk now (c.drop_file.ensures.crash told))

pub returns-in_err-drop_file-clause-others : goal.returns-in_err-drop_file-clause-others
returns-in_err-drop_file-clause-others g c told f high =
    c.drop_file.ensures.others told f (λ is. omega (arith, is, high, c.loop-file-test.true)) ∙ c.loop-file.invariant.others told f high

pub returns-clause-empty : goal.returns-clause-empty
returns-clause-empty g c told f le = c.loop-file.invariant.empty told f (omega (arith, le, c.loop-file-test.false))

pub returns-in_err-drop_file-clause-calls : goal.returns-in_err-drop_file-clause-calls
returns-in_err-drop_file-clause-calls g c = omega (arith, c.drop_file.ensures.calls, c.loop-file.invariant.calls, c.loop-file-test.true)

pub returns-clause-calls : goal.returns-clause-calls
returns-clause-calls g c = omega (arith, c.loop-file.invariant.calls, c.loop-file.auto.file-end)
