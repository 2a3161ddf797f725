use Rattle.std.proofs.Common.{◌≡◌, ◌≢◌, ◌⊎◌, ⊎_elim, ◌<◌, ◌≤◌, ℕ, refl, ap, ◌∙◌, arith}
use Rattle.std.proofs.lemmas.Bool.{cases_eq}
use Rattle.el_outside.specs.Disk.{Image, OnFile, Cut}
use Rattle.el_redone.proofs.Runs.{keeps, stays, goes_on, no_calls}
use Rattle.el_migrate.specs.within.Moving.{HasOldFiles}
use Rattle.el_migrate.proofs.Images.{old_kept}
use Rattle.el_migrate.proofs.moving.clear_files.Goals as goal

-- a file beyond those of format 2 isn't this one
not_this : (f file : ℕ) → 20 ≤ file → file < 30 → (f < 20) ⊎ (30 ≤ f) → f ≢ file
not_this f file low high out is = ⊎_elim (λ lt. omega (arith, is, lt, low)) (λ le. omega (arith, is, le, high)) out

pub loop-file-init : goal.loop-file-init
loop-file-init g c = record {
  low = omega arith;
  empty = λ told f low lt. absurd (omega (arith, low, lt));
  others = λ told f out. refl;
  crash = λ told files each. no_calls g.D.Disk c.args.disk.now (HasOldFiles files) each;
  faults = refl;
}

pub loop-file-preserved : goal.loop-file-preserved
loop-file-preserved g c =
    let was = c.loop-file.invariant in
    let high : c.loop-file.file < 30 = omega (arith, c.loop-file-test.true) in
    record {
      low = (let low = was.low in omega (arith, low));
      empty = λ told f low lt. ap (λ (s : Image). s f) (c.in_ok-sync.ensures.seen told) ∙ ⊎_elim
          (λ (is : f ≡ c.loop-file.file). ap (g.D.Disk.seen c.cut.new.self) is ∙ c.in_ok-cut.ensures.cut told)
          (λ ne. c.cut.ensures.others told f ne ∙ was.empty told f low (omega (arith, lt, ne)))
          (cases_eq f c.loop-file.file);
      others = λ told f out. ap (λ (s : Image). s f) (c.in_ok-sync.ensures.seen told) ∙ c.cut.ensures.others told f (not_this f c.loop-file.file was.low high out) ∙ was.others told f out;
      crash = λ told files each. goes_on g.D.Disk (λ d t u i le left. g.met.D.Disk.earlier d t u i told le left) c.args.disk.now c.cut.new.self c.sync.new.self (HasOldFiles files)
          (goes_on g.D.Disk (λ d t u i le left. g.met.D.Disk.earlier d t u i told le left) c.args.disk.now c.loop-file.disk c.cut.new.self (HasOldFiles files) (was.crash told files each)
          (λ now. keeps g.D.Disk c.loop-file.disk c.cut.new.self (HasOldFiles files) (OnFile c.loop-file.file (Cut 0)) (c.cut.ensures.time told) (c.cut.ensures.crash told)
          (λ d e kept on. old_kept files d e c.loop-file.file (Cut 0) (let low = was.low in omega (arith, low)) (λ is. omega (arith, is, high)) kept on) now))
          (λ now. stays g.D.Disk c.cut.new.self c.sync.new.self (HasOldFiles files) (c.sync.ensures.time told) (c.sync.ensures.crash told) now);
      faults = c.in_ok-sync.ensures.cause.uncounted ∙ c.in_ok-cut.ensures.cause.uncounted ∙ was.faults;
    }

pub returns-in_err-cut-clause-crash : goal.returns-in_err-cut-clause-crash
returns-in_err-cut-clause-crash g c told files each =
    let was = c.loop-file.invariant in
    let high : c.loop-file.file < 30 = omega (arith, c.loop-file-test.true) in
    goes_on g.D.Disk (λ d t u i le left. g.met.D.Disk.earlier d t u i told le left) c.args.disk.now c.loop-file.disk c.cut.new.self (HasOldFiles files) (was.crash told files each)
    (λ now. keeps g.D.Disk c.loop-file.disk c.cut.new.self (HasOldFiles files) (OnFile c.loop-file.file (Cut 0)) (c.cut.ensures.time told) (c.cut.ensures.crash told)
    (λ d e kept on. old_kept files d e c.loop-file.file (Cut 0) (let low = was.low in omega (arith, low)) (λ is. omega (arith, is, high)) kept on) now)

pub returns-in_err-sync-clause-crash : goal.returns-in_err-sync-clause-crash
returns-in_err-sync-clause-crash g c told files each =
    let was = c.loop-file.invariant in
    let high : c.loop-file.file < 30 = omega (arith, c.loop-file-test.true) in
    goes_on g.D.Disk (λ d t u i le left. g.met.D.Disk.earlier d t u i told le left) c.args.disk.now c.cut.new.self c.sync.new.self (HasOldFiles files)
    (goes_on g.D.Disk (λ d t u i le left. g.met.D.Disk.earlier d t u i told le left) c.args.disk.now c.loop-file.disk c.cut.new.self (HasOldFiles files) (was.crash told files each)
    (λ now. keeps g.D.Disk c.loop-file.disk c.cut.new.self (HasOldFiles files) (OnFile c.loop-file.file (Cut 0)) (c.cut.ensures.time told) (c.cut.ensures.crash told)
    (λ d e kept on. old_kept files d e c.loop-file.file (Cut 0) (let low = was.low in omega (arith, low)) (λ is. omega (arith, is, high)) kept on) now))
    (λ now. stays g.D.Disk c.cut.new.self c.sync.new.self (HasOldFiles files) (c.sync.ensures.time told) (c.sync.ensures.crash told) now)

pub returns-in_err-cut-clause-others : goal.returns-in_err-cut-clause-others
returns-in_err-cut-clause-others g c told f out =
    c.cut.ensures.others told f (not_this f c.loop-file.file c.loop-file.invariant.low (omega (arith, c.loop-file-test.true)) out) ∙ c.loop-file.invariant.others told f out

pub returns-in_err-sync-clause-others : goal.returns-in_err-sync-clause-others
returns-in_err-sync-clause-others g c told f out =
    let ne = not_this f c.loop-file.file c.loop-file.invariant.low (omega (arith, c.loop-file-test.true)) out in
    c.sync.ensures.others told f ne ∙ c.cut.ensures.others told f ne ∙ c.loop-file.invariant.others told f out

pub returns-clause-empty : goal.returns-clause-empty
returns-clause-empty g c told f low lt = c.loop-file.invariant.empty told f low (omega (arith, lt, c.loop-file-test.false))

pub returns-clause-others : goal.returns-clause-others
returns-clause-others g c told f out = c.loop-file.invariant.others told f out

pub returns-clause-crash : goal.returns-clause-crash
returns-clause-crash g c told files each = c.loop-file.invariant.crash told files each
