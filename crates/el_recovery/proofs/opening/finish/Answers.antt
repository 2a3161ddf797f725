use Rattle.std.proofs.Common.{◌<◌, ◌≤◌, ◌+◌, ℕ, inl, inr, ⊎_elim, refl, ap, sym, subst, ◌∙◌, arith}
use Rattle.std.proofs.lemmas.Result.{err_from_is_err_and}
use Rattle.el_outside.specs.Disk.{Image}
use Rattle.el_outside.specs.Moments.{LeftNow}
use Rattle.el_outside.specs.declared.archive.TheConstants.{SIZE_LIMIT}
use Rattle.el_redone.specs.Redone.{ImageStandsFor}
use Rattle.el_redone.proofs.Runs.{now_has}
use Rattle.el_pages.specs.Layouts.{redo_of}
use Rattle.el_pages.specs.Records.{Spells}
use Rattle.el_recovery.specs.Checks.{Found, IsBadChange}
use Rattle.el_recovery.specs.within.Checking.{HasBody}
use Rattle.el_recovery.proofs.Settles.{some_there, body_there, body_waits, body_told, rest_none, stands_none, stands_redone, reads_on, read_alike, still_on_disk, still_redo_on_disk, still_root_on_disk, redone_alike, record_found}
use Rattle.el_recovery.proofs.opening.finish.Goals as goal

-- ---- nothing waits

pub returns-in_default-clause-rest : goal.returns-in_default-clause-rest
returns-in_default-clause-rest g c told =
    let l = c.args.layout.now in
    let old = c.args.disk.now in
    let mid = c.waiting.new.disk in
    let fewer = now_has g.D.Disk (λ d t u i le left. g.met.D.Disk.earlier d t u i told le left) old mid (LeftNow g.D.Disk.moment g.D.Disk.left_since old) (c.waiting.ensures.crash told) in
    rest_none g.D.Disk l.first (redo_of l) old mid fewer (c.waiting.ensures.seen told) (c.requires.on_disk told) (c.requires.redo_on_disk told) (c.requires.root_on_disk told) (c.requires.begun told)
    (c.in_ok-len.ensures.none told c.in_default.is)

pub returns-in_default-clause-stands : goal.returns-in_default-clause-stands
returns-in_default-clause-stands g c told =
    let l = c.args.layout.now in
    stands_none l (g.D.Disk.seen c.args.disk.now) (g.D.Disk.seen c.waiting.new.disk) (c.waiting.ensures.seen told) (c.in_ok-len.ensures.none told c.in_default.is)

pub returns-in_err-len-clause-crash : goal.returns-in_err-len-clause-crash
returns-in_err-len-clause-crash g c told =
    read_alike g.D.Disk (λ d t u i le left. g.met.D.Disk.earlier d t u i told le left) c.args.layout.now c.args.disk.now (c.requires.on_disk told) (c.requires.redo_on_disk told) (c.requires.root_on_disk told) c.waiting.new.disk (c.waiting.ensures.crash told)

pub returns-in_default-clause-crash : goal.returns-in_default-clause-crash
returns-in_default-clause-crash g c told =
    read_alike g.D.Disk (λ d t u i le left. g.met.D.Disk.earlier d t u i told le left) c.args.layout.now c.args.disk.now (c.requires.on_disk told) (c.requires.redo_on_disk told) (c.requires.root_on_disk told) c.waiting.new.disk (c.waiting.ensures.crash told)

-- ---- the body is bad

pub returns-in_err-len-clause-bad : goal.returns-in_err-len-clause-bad
returns-in_err-len-clause-bad g c told =
    let p = err_from_is_err_and c.from_residual.result c.from_residual.ensures.1 in
    rw (p.1, p.2) (
    ⊎_elim
    (λ failed. inl failed)
    (λ bad. inr (bad.0, bad.1, inl bad.2, c.waiting.ensures.seen told))
    (c.in_err-len.ensures.bad told)
    )

pub returns-in_err-check_body-clause-bad : goal.returns-in_err-check_body-clause-bad
returns-in_err-check_body-clause-bad g c told =
    let p = err_from_is_err_and c.from_residual-in_err-check_body.result c.from_residual-in_err-check_body.ensures.1 in
    rw (p.1, p.2) (
    let l = c.args.layout.now in
    let seen = g.D.Disk.seen c.args.disk.now in
    let same = c.waiting.ensures.seen told in
    let some = body_there l seen _ c.in-Some.len (c.in_ok-len.ensures.some told) c.in-Some.is in
    ⊎_elim
    (λ failed. inl failed)
    (λ bad. inr (bad.0, bad.1, inr (subst (λ (s : Image). IsBadChange l s bad.0) same bad.2), c.check_body.ensures.seen told ∙ same))
    (c.in_err-check_body.ensures.bad told some.0 some.1 (subst (λ (s : Image). HasBody l s c.in-Some.len some.0 some.1) (sym same) some.2))
    )

pub returns-in_err-check_body-clause-crash : goal.returns-in_err-check_body-clause-crash
returns-in_err-check_body-clause-crash g c told =
    let l = c.args.layout.now in
    let old = c.args.disk.now in
    let mid = c.check_body.new.disk in
    let read = reads_on g.D.Disk (λ d t u i le left. g.met.D.Disk.earlier d t u i told le left) old c.waiting.new.disk mid (c.waiting.ensures.crash told) (c.check_body.ensures.crash told) in
    read_alike g.D.Disk (λ d t u i le left. g.met.D.Disk.earlier d t u i told le left) l old (c.requires.on_disk told) (c.requires.redo_on_disk told) (c.requires.root_on_disk told) mid read

-- ---- the record is redone

pub redo-requires-clause-has : goal.redo-requires-clause-has
redo-requires-clause-has g c told =
    let l = c.args.layout.now in
    let old = c.args.disk.now in
    let mid = c.check_body.new.disk in
    let rec = record_found l (g.D.Disk.seen old) (g.D.Disk.seen c.waiting.new.disk) (g.D.Disk.seen mid) _ c.in-Some.len (c.waiting.ensures.seen told) (c.check_body.ensures.seen told) (c.in_ok-len.ensures.some told) c.in-Some.is
    (c.in_ok-check_body.ensures.ok told) in
    (rec.0, rec.1, rec.2, rec.3)

pub returns-in_err-redo-clause-crash : goal.returns-in_err-redo-clause-crash
returns-in_err-redo-clause-crash g c told =
    let l = c.args.layout.now in
    let old = c.args.disk.now in
    let mid = c.check_body.new.disk in
    let rec = record_found l (g.D.Disk.seen old) (g.D.Disk.seen c.waiting.new.disk) (g.D.Disk.seen mid) _ c.in-Some.len (c.waiting.ensures.seen told) (c.check_body.ensures.seen told) (c.in_ok-len.ensures.some told) c.in-Some.is
    (c.in_ok-check_body.ensures.ok told) in
    let read = reads_on g.D.Disk (λ d t u i le left. g.met.D.Disk.earlier d t u i told le left) old c.waiting.new.disk mid (c.waiting.ensures.crash told) (c.check_body.ensures.crash told) in
    let same = c.check_body.ensures.seen told ∙ c.waiting.ensures.seen told in
    redone_alike g.D.Disk (λ d t u i le left. g.met.D.Disk.earlier d t u i told le left) l old (c.requires.on_disk told) (c.requires.redo_on_disk told) (c.requires.root_on_disk told) mid read same c.redo.new.disk (c.redo.ensures.crash told rec.0 rec.1 rec.2 rec.3)

pub returns-then-not-branch-clause-crash : goal.returns-then-not-branch-clause-crash
returns-then-not-branch-clause-crash g c told =
    let l = c.args.layout.now in
    let old = c.args.disk.now in
    let mid = c.check_body.new.disk in
    let rec = record_found l (g.D.Disk.seen old) (g.D.Disk.seen c.waiting.new.disk) (g.D.Disk.seen mid) _ c.in-Some.len (c.waiting.ensures.seen told) (c.check_body.ensures.seen told) (c.in_ok-len.ensures.some told) c.in-Some.is
    (c.in_ok-check_body.ensures.ok told) in
    let read = reads_on g.D.Disk (λ d t u i le left. g.met.D.Disk.earlier d t u i told le left) old c.waiting.new.disk mid (c.waiting.ensures.crash told) (c.check_body.ensures.crash told) in
    let same = c.check_body.ensures.seen told ∙ c.waiting.ensures.seen told in
    redone_alike g.D.Disk (λ d t u i le left. g.met.D.Disk.earlier d t u i told le left) l old (c.requires.on_disk told) (c.requires.redo_on_disk told) (c.requires.root_on_disk told) mid read same c.redo.new.disk (c.redo.ensures.crash told rec.0 rec.1 rec.2 rec.3)

pub returns-clause-crash : goal.returns-clause-crash
returns-clause-crash g c told =
    let l = c.args.layout.now in
    let old = c.args.disk.now in
    let mid = c.check_body.new.disk in
    let rec = record_found l (g.D.Disk.seen old) (g.D.Disk.seen c.waiting.new.disk) (g.D.Disk.seen mid) _ c.in-Some.len (c.waiting.ensures.seen told) (c.check_body.ensures.seen told) (c.in_ok-len.ensures.some told) c.in-Some.is
    (c.in_ok-check_body.ensures.ok told) in
    let read = reads_on g.D.Disk (λ d t u i le left. g.met.D.Disk.earlier d t u i told le left) old c.waiting.new.disk mid (c.waiting.ensures.crash told) (c.check_body.ensures.crash told) in
    let same = c.check_body.ensures.seen told ∙ c.waiting.ensures.seen told in
    redone_alike g.D.Disk (λ d t u i le left. g.met.D.Disk.earlier d t u i told le left) l old (c.requires.on_disk told) (c.requires.redo_on_disk told) (c.requires.root_on_disk told) mid read same c.redo.new.disk (c.redo.ensures.crash told rec.0 rec.1 rec.2 rec.3)

pub returns-then-not-branch-clause-bad : goal.returns-then-not-branch-clause-bad
returns-then-not-branch-clause-bad g c told =
    let l = c.args.layout.now in
    let old = c.args.disk.now in
    let mid = c.check_body.new.disk in
    let rec = record_found l (g.D.Disk.seen old) (g.D.Disk.seen c.waiting.new.disk) (g.D.Disk.seen mid) _ c.in-Some.len (c.waiting.ensures.seen told) (c.check_body.ensures.seen told) (c.in_ok-len.ensures.some told) c.in-Some.is
    (c.in_ok-check_body.ensures.ok told) in
    let read = reads_on g.D.Disk (λ d t u i le left. g.met.D.Disk.earlier d t u i told le left) old c.waiting.new.disk mid (c.waiting.ensures.crash told) (c.check_body.ensures.crash told) in
    let same = c.check_body.ensures.seen told ∙ c.waiting.ensures.seen told in
    let done = c.in_ok-redo.ensures.at_rest told rec.0 rec.1 rec.2 rec.3
    (still_on_disk g.D.Disk (λ d t u i le left. g.met.D.Disk.earlier d t u i told le left) l old (c.requires.on_disk told) (c.requires.redo_on_disk told) (c.requires.root_on_disk told) mid read same)
    (still_redo_on_disk g.D.Disk (λ d t u i le left. g.met.D.Disk.earlier d t u i told le left) l old (c.requires.on_disk told) (c.requires.redo_on_disk told) (c.requires.root_on_disk told) mid read same)
    (still_root_on_disk g.D.Disk (λ d t u i le left. g.met.D.Disk.earlier d t u i told le left) l old (c.requires.on_disk told) (c.requires.redo_on_disk told) (c.requires.root_on_disk told) mid read same) in
    let is_true = done.0 in
    let is_false = c.if-not-branch.true in
    absurd (cc (is_true, is_false))

pub returns-clause-rest : goal.returns-clause-rest
returns-clause-rest g c told =
    let l = c.args.layout.now in
    let old = c.args.disk.now in
    let mid = c.check_body.new.disk in
    let rec = record_found l (g.D.Disk.seen old) (g.D.Disk.seen c.waiting.new.disk) (g.D.Disk.seen mid) _ c.in-Some.len (c.waiting.ensures.seen told) (c.check_body.ensures.seen told) (c.in_ok-len.ensures.some told) c.in-Some.is
    (c.in_ok-check_body.ensures.ok told) in
    let read = reads_on g.D.Disk (λ d t u i le left. g.met.D.Disk.earlier d t u i told le left) old c.waiting.new.disk mid (c.waiting.ensures.crash told) (c.check_body.ensures.crash told) in
    let same = c.check_body.ensures.seen told ∙ c.waiting.ensures.seen told in
    let done = c.in_ok-redo.ensures.at_rest told rec.0 rec.1 rec.2 rec.3
    (still_on_disk g.D.Disk (λ d t u i le left. g.met.D.Disk.earlier d t u i told le left) l old (c.requires.on_disk told) (c.requires.redo_on_disk told) (c.requires.root_on_disk told) mid read same)
    (still_redo_on_disk g.D.Disk (λ d t u i le left. g.met.D.Disk.earlier d t u i told le left) l old (c.requires.on_disk told) (c.requires.redo_on_disk told) (c.requires.root_on_disk told) mid read same)
    (still_root_on_disk g.D.Disk (λ d t u i le left. g.met.D.Disk.earlier d t u i told le left) l old (c.requires.on_disk told) (c.requires.redo_on_disk told) (c.requires.root_on_disk told) mid read same) in
    done.1

pub returns-clause-stands : goal.returns-clause-stands
returns-clause-stands g c told =
    let l = c.args.layout.now in
    let old = c.args.disk.now in
    let mid = c.check_body.new.disk in
    let rec = record_found l (g.D.Disk.seen old) (g.D.Disk.seen c.waiting.new.disk) (g.D.Disk.seen mid) _ c.in-Some.len (c.waiting.ensures.seen told) (c.check_body.ensures.seen told) (c.in_ok-len.ensures.some told) c.in-Some.is
    (c.in_ok-check_body.ensures.ok told) in
    let read = reads_on g.D.Disk (λ d t u i le left. g.met.D.Disk.earlier d t u i told le left) old c.waiting.new.disk mid (c.waiting.ensures.crash told) (c.check_body.ensures.crash told) in
    let same = c.check_body.ensures.seen told ∙ c.waiting.ensures.seen told in
    let done = c.in_ok-redo.ensures.at_rest told rec.0 rec.1 rec.2 rec.3
    (still_on_disk g.D.Disk (λ d t u i le left. g.met.D.Disk.earlier d t u i told le left) l old (c.requires.on_disk told) (c.requires.redo_on_disk told) (c.requires.root_on_disk told) mid read same)
    (still_redo_on_disk g.D.Disk (λ d t u i le left. g.met.D.Disk.earlier d t u i told le left) l old (c.requires.on_disk told) (c.requires.redo_on_disk told) (c.requires.root_on_disk told) mid read same)
    (still_root_on_disk g.D.Disk (λ d t u i le left. g.met.D.Disk.earlier d t u i told le left) l old (c.requires.on_disk told) (c.requires.redo_on_disk told) (c.requires.root_on_disk told) mid read same) in
    subst (λ (s : Image). ImageStandsFor (Spells l) l.first (redo_of l) (g.D.Disk.seen c.redo.new.disk) s) same
    (stands_redone l (g.D.Disk.seen mid) (g.D.Disk.seen c.redo.new.disk) c.in-Some.len rec.0 rec.1 rec.2 rec.3 done.2)

pub returns-in_err-len-clause-only : goal.returns-in_err-len-clause-only
returns-in_err-len-clause-only g c =
    let p = err_from_is_err_and c.from_residual.result c.from_residual.ensures.1 in
    rw (p.1, p.2) c.in_err-len.ensures.only

pub returns-in_err-check_body-clause-only : goal.returns-in_err-check_body-clause-only
returns-in_err-check_body-clause-only g c =
    let p = err_from_is_err_and c.from_residual-in_err-check_body.result c.from_residual-in_err-check_body.ensures.1 in
    rw (p.1, p.2) c.in_err-check_body.ensures.only

pub returns-in_err-redo-clause-bad : goal.returns-in_err-redo-clause-bad
returns-in_err-redo-clause-bad g c told =
    let p = err_from_is_err_and c.from_residual-in_err-redo.result c.from_residual-in_err-redo.ensures.1 in
    rw (p.1, p.2) (inl refl)

pub returns-in_err-redo-clause-only : goal.returns-in_err-redo-clause-only
returns-in_err-redo-clause-only g c =
    let p = err_from_is_err_and c.from_residual-in_err-redo.result c.from_residual-in_err-redo.ensures.1 in
    rw (p.1, p.2) (inl refl)

pub check_body-requires : goal.check_body-requires
check_body-requires g c = record {
  few = c.requires.few;
  narrow = c.requires.narrow;
  sized = c.requires.sized;
  low = some_there (λ (n : ℕ). 9 + n < SIZE_LIMIT) _ c.in-Some.len c.in_ok-len.ensures.low c.in-Some.is;
  meta = some_there (λ (n : ℕ). c.args.layout.now.meta ≤ n) _ c.in-Some.len c.in_ok-len.ensures.meta c.in-Some.is;
}

pub redo-requires-clause-low : goal.redo-requires-clause-low
redo-requires-clause-low g c = some_there (λ (n : ℕ). 9 + n < SIZE_LIMIT) _ c.in-Some.len c.in_ok-len.ensures.low c.in-Some.is

pub returns-then-not-branch-clause-only : goal.returns-then-not-branch-clause-only
returns-then-not-branch-clause-only g c = let found : Found = (c.span.result.redo, c.in-Some.len, 0) in inr (found, refl)

pub redo-requires-clause-room : goal.redo-requires-clause-room
redo-requires-clause-room g c = some_there (λ (n : ℕ). c.args.layout.now.meta ≤ n) _ c.in-Some.len c.in_ok-len.ensures.meta c.in-Some.is

-- ---- the files beyond the span

pub returns-in_err-len-clause-beside : goal.returns-in_err-len-clause-beside
returns-in_err-len-clause-beside g c told f out = ap (λ (s : Image). s f) (c.waiting.ensures.seen told)

pub returns-in_default-clause-beside : goal.returns-in_default-clause-beside
returns-in_default-clause-beside g c told f out = ap (λ (s : Image). s f) (c.waiting.ensures.seen told)

pub returns-in_err-check_body-clause-beside : goal.returns-in_err-check_body-clause-beside
returns-in_err-check_body-clause-beside g c told f out = ap (λ (s : Image). s f) (c.check_body.ensures.seen told ∙ c.waiting.ensures.seen told)

pub returns-in_err-redo-clause-beside : goal.returns-in_err-redo-clause-beside
returns-in_err-redo-clause-beside g c told f out = c.redo.ensures.beside told f out ∙ ap (λ (s : Image). s f) (c.check_body.ensures.seen told ∙ c.waiting.ensures.seen told)

pub returns-then-not-branch-clause-beside : goal.returns-then-not-branch-clause-beside
returns-then-not-branch-clause-beside g c told f out = c.redo.ensures.beside told f out ∙ ap (λ (s : Image). s f) (c.check_body.ensures.seen told ∙ c.waiting.ensures.seen told)

pub returns-clause-beside : goal.returns-clause-beside
returns-clause-beside g c told f out = c.redo.ensures.beside told f out ∙ ap (λ (s : Image). s f) (c.check_body.ensures.seen told ∙ c.waiting.ensures.seen told)

-- ---- calls

pub returns-in_err-len-clause-calls : goal.returns-in_err-len-clause-calls
returns-in_err-len-clause-calls g c told = omega (arith, c.waiting.ensures.calls)

pub returns-in_default-clause-calls : goal.returns-in_default-clause-calls
returns-in_default-clause-calls g c told = omega (arith, c.waiting.ensures.calls)

pub returns-in_err-len-clause-quiet : goal.returns-in_err-len-clause-quiet
returns-in_err-len-clause-quiet g c told none = omega (arith, c.waiting.ensures.calls)

pub returns-in_default-clause-quiet : goal.returns-in_default-clause-quiet
returns-in_default-clause-quiet g c told none = omega (arith, c.waiting.ensures.calls)

pub returns-in_err-check_body-clause-calls : goal.returns-in_err-check_body-clause-calls
returns-in_err-check_body-clause-calls g c told =
    omega (arith, body_told c.args.layout.now (g.D.Disk.seen c.args.disk.now) _ c.in-Some.len (c.in_ok-len.ensures.some told) c.in-Some.is c.in_ok-len.ensures.low, c.waiting.ensures.calls, c.check_body.ensures.calls)

pub returns-in_err-check_body-clause-quiet : goal.returns-in_err-check_body-clause-quiet
returns-in_err-check_body-clause-quiet g c told none =
    absurd (body_waits c.args.layout.now (g.D.Disk.seen c.args.disk.now) _ c.in-Some.len (c.in_ok-len.ensures.some told) c.in-Some.is none)

pub returns-in_err-redo-clause-calls : goal.returns-in_err-redo-clause-calls
returns-in_err-redo-clause-calls g c told =
    omega (arith, body_told c.args.layout.now (g.D.Disk.seen c.args.disk.now) _ c.in-Some.len (c.in_ok-len.ensures.some told) c.in-Some.is c.in_ok-len.ensures.low, c.waiting.ensures.calls, c.check_body.ensures.calls, c.redo.ensures.calls)

pub returns-in_err-redo-clause-quiet : goal.returns-in_err-redo-clause-quiet
returns-in_err-redo-clause-quiet g c told none =
    absurd (body_waits c.args.layout.now (g.D.Disk.seen c.args.disk.now) _ c.in-Some.len (c.in_ok-len.ensures.some told) c.in-Some.is none)

pub returns-then-not-branch-clause-calls : goal.returns-then-not-branch-clause-calls
returns-then-not-branch-clause-calls g c told =
    omega (arith, body_told c.args.layout.now (g.D.Disk.seen c.args.disk.now) _ c.in-Some.len (c.in_ok-len.ensures.some told) c.in-Some.is c.in_ok-len.ensures.low, c.waiting.ensures.calls, c.check_body.ensures.calls, c.redo.ensures.calls)

pub returns-then-not-branch-clause-quiet : goal.returns-then-not-branch-clause-quiet
returns-then-not-branch-clause-quiet g c told none =
    absurd (body_waits c.args.layout.now (g.D.Disk.seen c.args.disk.now) _ c.in-Some.len (c.in_ok-len.ensures.some told) c.in-Some.is none)

pub returns-clause-calls : goal.returns-clause-calls
returns-clause-calls g c told =
    omega (arith, body_told c.args.layout.now (g.D.Disk.seen c.args.disk.now) _ c.in-Some.len (c.in_ok-len.ensures.some told) c.in-Some.is c.in_ok-len.ensures.low, c.waiting.ensures.calls, c.check_body.ensures.calls, c.redo.ensures.calls)

pub returns-clause-quiet : goal.returns-clause-quiet
returns-clause-quiet g c told none =
    absurd (body_waits c.args.layout.now (g.D.Disk.seen c.args.disk.now) _ c.in-Some.len (c.in_ok-len.ensures.some told) c.in-Some.is none)
