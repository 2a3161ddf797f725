use Rattle.std.proofs.Common.{◌≡◌, ⊎_elim, ap, sym, subst, ◌∙◌, arith}
use Rattle.std.proofs.lemmas.Bool.{cases_eq}
use Rattle.el_outside.specs.Disk.{Image}
use Rattle.el_outside.specs.Moments.{LeftNow}
use Rattle.el_redone.proofs.Runs.{stays, goes_on, no_calls}
use Rattle.el_redone.proofs.steps.sync_files.Goals as goal

pub loop-file-init : goal.loop-file-init
loop-file-init g c = record {
  durable = λ told f low lt. absurd (omega (arith, low, lt));
  seen = λ told. search arith;
  crash = λ told. no_calls g.D.Disk c.args.disk.now (LeftNow g.D.Disk.moment g.D.Disk.left_since c.args.disk.now) (λ i left. left);
  calls = omega arith;
  end = omega arith;
  faults = search arith;
}

pub loop-file-preserved : goal.loop-file-preserved
loop-file-preserved g c =
    let was = c.loop-file.invariant in
    record {
      durable = λ told f low lt i left. ⊎_elim
          (λ (is : f ≡ c.loop-file.file). subst (λ h. i h ≡ g.D.Disk.seen c.sync.new.self h) (sym is) (c.in_ok-sync.ensures.durable told i left))
          (λ ne. was.durable told f low (omega (arith, lt, ne)) i (c.sync.ensures.crash told i left) ∙ ap (λ (s : Image). s f) (sym (c.in_ok-sync.ensures.seen told)))
          (cases_eq f c.loop-file.file);
      seen = λ told. c.in_ok-sync.ensures.seen told ∙ was.seen told;
      crash = λ told. goes_on g.D.Disk (λ d t u i le left. g.met.D.Disk.earlier d t u i told le left) c.args.disk.now c.loop-file.disk c.sync.new.self (LeftNow g.D.Disk.moment g.D.Disk.left_since c.args.disk.now)
          (was.crash told)
          (λ now. stays g.D.Disk c.loop-file.disk c.sync.new.self (LeftNow g.D.Disk.moment g.D.Disk.left_since c.args.disk.now) (c.sync.ensures.time told) (c.sync.ensures.crash told) now);
      calls = omega (arith, c.sync.ensures.called, was.calls);
      end = omega (arith, c.loop-file-test.true);
      faults = c.in_ok-sync.ensures.cause.uncounted ∙ was.faults;
    }

pub returns-in_err-sync-clause-crash : goal.returns-in_err-sync-clause-crash
returns-in_err-sync-clause-crash g c told =
    goes_on g.D.Disk (λ d t u i le left. g.met.D.Disk.earlier d t u i told le left) c.args.disk.now c.loop-file.disk c.sync.new.self (LeftNow g.D.Disk.moment g.D.Disk.left_since c.args.disk.now)
    (c.loop-file.invariant.crash told)
    (λ now. stays g.D.Disk c.loop-file.disk c.sync.new.self (LeftNow g.D.Disk.moment g.D.Disk.left_since c.args.disk.now) (c.sync.ensures.time told) (c.sync.ensures.crash told) now)

pub returns-clause-calls : goal.returns-clause-calls
returns-clause-calls g c = omega (arith, c.loop-file.invariant.calls, c.loop-file.invariant.end)

pub returns-in_err-sync-clause-beside : goal.returns-in_err-sync-clause-beside
returns-in_err-sync-clause-beside g c told f out =
    c.sync.ensures.others told f (λ is. ⊎_elim (λ lt. omega (arith, is, lt)) (λ le. omega (arith, is, le, c.loop-file-test.true)) out) ∙ ap (λ (s : Image). s f) (c.loop-file.invariant.seen told)

pub returns-clause-beside : goal.returns-clause-beside
returns-clause-beside g c told f out = ap (λ (s : Image). s f) (c.loop-file.invariant.seen told)
