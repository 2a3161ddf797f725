use Rattle.std.proofs.Common.{◌+◌, [], drop, inl, inr, ⊎_elim, refl, sym, subst, ◌∙◌, arith}
use Rattle.std.proofs.lemmas.Result.{err_from_is_err_and}
use Rattle.el_outside.specs.Disk.{Image}
use Rattle.el_rows.specs.Changes.{count_at}
use Rattle.el_pages.specs.Records.{writes_of}
use Rattle.el_recovery.specs.Checks.{IsBadChange}
use Rattle.el_recovery.specs.within.Checking.{IsBodyChecked}
use Rattle.el_recovery.proofs.Bodies.{checked_none, checked_all}
use Rattle.el_recovery.proofs.Settles.{reads_on}
use Rattle.el_recovery.proofs.checking.check_body.Goals as goal

pub loop-at-init : goal.loop-at-init
loop-at-init g c = record {
  small = λ t. omega (arith, c.in_ok-reach.ensures.small t);
  within = omega (arith, c.requires.meta);
  checked = λ told body stale has. let l = c.args.layout.now in (
    [],
    drop l.meta body,
    subst (λ (s : Image). IsBodyChecked l s body stale (9 + l.meta) (9 + c.args.len) [] (drop l.meta body) (count_at c.in_ok-reach.reach)) (sym (c.file_sizes.ensures.seen told))
        (checked_none l (g.D.Disk.seen c.args.disk.now) c.args.len (9 + l.meta) (9 + c.args.len) body stale (count_at c.in_ok-reach.reach) has (λ t. c.in_ok-reach.ensures.sizes told t) refl refl),
  );
  seen = λ told. c.file_sizes.ensures.seen told;
  crash = λ told. c.file_sizes.ensures.crash told;
  calls = omega (arith, c.file_sizes.ensures.calls, c.requires.meta);
  faults = c.in_ok-reach.ensures.cause.uncounted;
}

pub loop-at-preserved : goal.loop-at-preserved
loop-at-preserved g c =
    let was = c.loop-at.invariant in
    record {
      small = c.in_ok-at.ensures.small;
      within = c.in_ok-at.ensures.within;
      checked = λ told body stale has. let l = c.args.layout.now in
          let now = was.checked told body stale has in
          let next = c.in_ok-at.ensures.next told body stale now.1 now.0 now.2 in
          (next.0, next.1, subst (λ (s : Image). IsBodyChecked l s body stale c.in_ok-at.at (9 + c.args.len) next.0 next.1 (count_at c.check_change.new.reach)) (sym (c.check_change.ensures.seen told)) next.2);
      seen = λ told. c.check_change.ensures.seen told ∙ was.seen told;
      crash = λ told. reads_on g.D.Disk (λ d t u i le left. g.met.D.Disk.earlier d t u i told le left) c.args.disk.now c.loop-at.disk c.check_change.new.disk (was.crash told) (c.check_change.ensures.crash told);
      calls = omega (arith, was.calls, c.check_change.ensures.called, c.in_ok-at.ensures.further);
      faults = c.in_ok-at.ensures.cause.uncounted ∙ was.faults;
    }

pub returns-in_err-at-clause-crash : goal.returns-in_err-at-clause-crash
returns-in_err-at-clause-crash g c told =
    reads_on g.D.Disk (λ d t u i le left. g.met.D.Disk.earlier d t u i told le left) c.args.disk.now c.loop-at.disk c.check_change.new.disk (c.loop-at.invariant.crash told) (c.check_change.ensures.crash told)

pub returns-in_err-at-clause-bad : goal.returns-in_err-at-clause-bad
returns-in_err-at-clause-bad g c told body stale has =
    let p = err_from_is_err_and c.from_residual-in_err-at.result c.from_residual-in_err-at.ensures.1 in
    rw (p.1, p.2) (
    let l = c.args.layout.now in
    let was = c.loop-at.invariant in
    let now = was.checked told body stale has in
    ⊎_elim
    (λ failed. inl failed)
    (λ bad. inr (bad.0, bad.1, subst (λ (s : Image). IsBadChange l s bad.0) (was.seen told) bad.2))
    (c.in_err-at.ensures.bad told body stale now.1 now.0 now.2)
    )

pub returns-clause-ok : goal.returns-clause-ok
returns-clause-ok g c told body stale has =
    let l = c.args.layout.now in
    let was = c.loop-at.invariant in
    let now = was.checked told body stale has in
    let checked = subst (λ (s : Image). IsBodyChecked l s body stale c.loop-at.at (9 + c.args.len) now.0 now.1 (count_at c.loop-at.reach)) (was.seen told) now.2 in
    (writes_of l checked.meta now.0, checked_all l (g.D.Disk.seen c.args.disk.now) body stale c.loop-at.at (9 + c.args.len) now.0 now.1 (count_at c.loop-at.reach) checked c.args.len has c.loop-at-test.false)

pub returns-in_err-reach-clause-bad : goal.returns-in_err-reach-clause-bad
returns-in_err-reach-clause-bad g c told body stale has =
    let p = err_from_is_err_and c.from_residual.result c.from_residual.ensures.1 in
    rw (p.1, p.2) (inl refl)

pub returns-in_err-reach-clause-only : goal.returns-in_err-reach-clause-only
returns-in_err-reach-clause-only g c =
    let p = err_from_is_err_and c.from_residual.result c.from_residual.ensures.1 in
    rw (p.1, p.2) (inl refl)

pub returns-in_err-at-clause-only : goal.returns-in_err-at-clause-only
returns-in_err-at-clause-only g c =
    let p = err_from_is_err_and c.from_residual-in_err-at.result c.from_residual-in_err-at.ensures.1 in
    rw (p.1, p.2) c.in_err-at.ensures.only

pub loop-at-smaller : goal.loop-at-smaller
loop-at-smaller g c = omega (arith, c.in_ok-at.ensures.further, c.loop-at-test.true)

pub returns-in_err-reach-clause-calls : goal.returns-in_err-reach-clause-calls
returns-in_err-reach-clause-calls g c = omega (arith, c.file_sizes.ensures.calls)

pub returns-in_err-at-clause-calls : goal.returns-in_err-at-clause-calls
returns-in_err-at-clause-calls g c = omega (arith, c.loop-at.invariant.calls, c.loop-at-test.true, c.check_change.ensures.called)

pub returns-clause-calls : goal.returns-clause-calls
returns-clause-calls g c = omega (arith, c.loop-at.invariant.calls, c.loop-at.invariant.within)
