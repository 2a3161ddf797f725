use Rattle.std.proofs.Common.{◌≢◌, ◌⊎◌, inl, inr, ⊎_elim, ◌<◌, ◌≤◌, ℕ, length, ap, ◌∙◌, arith}
use Rattle.el_outside.specs.Disk.{Image}
use Rattle.el_outside.specs.Moments.{LeftNow}
use Rattle.el_redone.specs.Steps.{IsBegun}
use Rattle.el_redone.proofs.Runs.{stays, goes_on, now_has}
use Rattle.el_redone.proofs.Begins.{begun_still, begun_later, still_on_disk}
use Rattle.el_redone.proofs.opening.begin_files.Goals as goal

pub returns-in_err-sync_files-clause-crash : goal.returns-in_err-sync_files-clause-crash
returns-in_err-sync_files-clause-crash g c told = begun_still g.D.Disk c.args.span.redo (λ d t u i le left. g.met.D.Disk.earlier d t u i told le left) c.args.disk.now c.sync_files.new.disk (c.sync_files.ensures.crash told)

pub returns-in_err-sync-clause-crash : goal.returns-in_err-sync-clause-crash
returns-in_err-sync-clause-crash g c told = goes_on g.D.Disk (λ d t u i le left. g.met.D.Disk.earlier d t u i told le left) c.args.disk.now c.sync_files.new.disk c.sync.new.self (IsBegun g.D.Disk c.args.span.redo c.args.disk.now) (begun_still g.D.Disk c.args.span.redo (λ d t u i le left. g.met.D.Disk.earlier d t u i told le left) c.args.disk.now c.sync_files.new.disk (c.sync_files.ensures.crash told))
    (λ now. stays g.D.Disk c.sync_files.new.disk c.sync.new.self (IsBegun g.D.Disk c.args.span.redo c.args.disk.now) (c.sync.ensures.time told) (c.sync.ensures.crash told) now)

pub returns-in_err-size-clause-crash : goal.returns-in_err-size-clause-crash
returns-in_err-size-clause-crash g c told = goes_on g.D.Disk (λ d t u i le left. g.met.D.Disk.earlier d t u i told le left) c.args.disk.now c.sync.new.self c.size.new.self (IsBegun g.D.Disk c.args.span.redo c.args.disk.now) (goes_on g.D.Disk (λ d t u i le left. g.met.D.Disk.earlier d t u i told le left) c.args.disk.now c.sync_files.new.disk c.sync.new.self (IsBegun g.D.Disk c.args.span.redo c.args.disk.now) (begun_still g.D.Disk c.args.span.redo (λ d t u i le left. g.met.D.Disk.earlier d t u i told le left) c.args.disk.now c.sync_files.new.disk (c.sync_files.ensures.crash told))
    (λ now. stays g.D.Disk c.sync_files.new.disk c.sync.new.self (IsBegun g.D.Disk c.args.span.redo c.args.disk.now) (c.sync.ensures.time told) (c.sync.ensures.crash told) now))
    (λ now. stays g.D.Disk c.sync.new.self c.size.new.self (IsBegun g.D.Disk c.args.span.redo c.args.disk.now) (c.size.ensures.time told) (c.size.ensures.crash told) now)

pub returns-then-size-ge2-clause-crash : goal.returns-then-size-ge2-clause-crash
returns-then-size-ge2-clause-crash g c told = goes_on g.D.Disk (λ d t u i le left. g.met.D.Disk.earlier d t u i told le left) c.args.disk.now c.sync.new.self c.size.new.self (IsBegun g.D.Disk c.args.span.redo c.args.disk.now) (goes_on g.D.Disk (λ d t u i le left. g.met.D.Disk.earlier d t u i told le left) c.args.disk.now c.sync_files.new.disk c.sync.new.self (IsBegun g.D.Disk c.args.span.redo c.args.disk.now) (begun_still g.D.Disk c.args.span.redo (λ d t u i le left. g.met.D.Disk.earlier d t u i told le left) c.args.disk.now c.sync_files.new.disk (c.sync_files.ensures.crash told))
    (λ now. stays g.D.Disk c.sync_files.new.disk c.sync.new.self (IsBegun g.D.Disk c.args.span.redo c.args.disk.now) (c.sync.ensures.time told) (c.sync.ensures.crash told) now))
    (λ now. stays g.D.Disk c.sync.new.self c.size.new.self (IsBegun g.D.Disk c.args.span.redo c.args.disk.now) (c.size.ensures.time told) (c.size.ensures.crash told) now)

pub returns-clause-crash : goal.returns-clause-crash
returns-clause-crash g c told =
    let short : length (g.D.Disk.seen c.size.new.self c.args.span.redo) < 2 =
    (let is = c.in_ok-size.ensures.size told in let same = ap (λ (s : Image). length (s c.args.span.redo)) (c.size.ensures.seen told) in omega (arith, is, same, c.if-size-ge2.false)) in
    goes_on g.D.Disk (λ d t u i le left. g.met.D.Disk.earlier d t u i told le left) c.args.disk.now c.size.new.self c.begin_redo.new.disk (IsBegun g.D.Disk c.args.span.redo c.args.disk.now) (goes_on g.D.Disk (λ d t u i le left. g.met.D.Disk.earlier d t u i told le left) c.args.disk.now c.sync.new.self c.size.new.self (IsBegun g.D.Disk c.args.span.redo c.args.disk.now) (goes_on g.D.Disk (λ d t u i le left. g.met.D.Disk.earlier d t u i told le left) c.args.disk.now c.sync_files.new.disk c.sync.new.self (IsBegun g.D.Disk c.args.span.redo c.args.disk.now) (begun_still g.D.Disk c.args.span.redo (λ d t u i le left. g.met.D.Disk.earlier d t u i told le left) c.args.disk.now c.sync_files.new.disk (c.sync_files.ensures.crash told))
    (λ now. stays g.D.Disk c.sync_files.new.disk c.sync.new.self (IsBegun g.D.Disk c.args.span.redo c.args.disk.now) (c.sync.ensures.time told) (c.sync.ensures.crash told) now))
    (λ now. stays g.D.Disk c.sync.new.self c.size.new.self (IsBegun g.D.Disk c.args.span.redo c.args.disk.now) (c.size.ensures.time told) (c.size.ensures.crash told) now))
    (λ now. begun_later g.D.Disk c.args.span.redo (λ d t u i le left. g.met.D.Disk.earlier d t u i told le left) c.args.disk.now c.size.new.self c.begin_redo.new.disk (λ i left. now_has g.D.Disk (λ d t u i le left. g.met.D.Disk.earlier d t u i told le left) c.args.disk.now c.sync_files.new.disk (LeftNow g.D.Disk.moment g.D.Disk.left_since c.args.disk.now) (c.sync_files.ensures.crash told) i (c.sync.ensures.crash told i (c.size.ensures.crash told i left)))
    (c.begin_redo.ensures.crash told short (still_on_disk g.D.Disk c.args.span.redo c.sync.new.self c.size.new.self (c.size.ensures.crash told) (ap (λ (s : Image). s c.args.span.redo) (c.size.ensures.seen told)) (c.in_ok-sync.ensures.durable told))))

-- a file beyond the span, also beyond its redo file
beyond : (first redo f : ℕ) → (f < first) ⊎ (redo < f) → (f < first) ⊎ (redo ≤ f)
beyond first redo f out = ⊎_elim (λ lt. inl lt) (λ gt. inr (omega (arith, gt))) out

apart : (first redo f : ℕ) → first ≤ redo → (f < first) ⊎ (redo < f) → f ≢ redo
apart first redo f le out is = ⊎_elim (λ lt. omega (arith, is, lt, le)) (λ gt. omega (arith, is, gt)) out

pub returns-in_err-sync_files-clause-beside : goal.returns-in_err-sync_files-clause-beside
returns-in_err-sync_files-clause-beside g c told f out = c.sync_files.ensures.beside told f (beyond c.args.span.first c.args.span.redo f out)

pub returns-in_err-sync-clause-beside : goal.returns-in_err-sync-clause-beside
returns-in_err-sync-clause-beside g c told f out =
    c.sync.ensures.others told f (apart c.args.span.first c.args.span.redo f c.requires out) ∙ c.sync_files.ensures.beside told f (beyond c.args.span.first c.args.span.redo f out)

pub returns-in_err-size-clause-beside : goal.returns-in_err-size-clause-beside
returns-in_err-size-clause-beside g c told f out =
    ap (λ (s : Image). s f) (c.size.ensures.seen told)
    ∙ c.sync.ensures.others told f (apart c.args.span.first c.args.span.redo f c.requires out) ∙ c.sync_files.ensures.beside told f (beyond c.args.span.first c.args.span.redo f out)

pub returns-then-size-ge2-clause-beside : goal.returns-then-size-ge2-clause-beside
returns-then-size-ge2-clause-beside g c told f out =
    ap (λ (s : Image). s f) (c.size.ensures.seen told)
    ∙ c.sync.ensures.others told f (apart c.args.span.first c.args.span.redo f c.requires out) ∙ c.sync_files.ensures.beside told f (beyond c.args.span.first c.args.span.redo f out)

pub returns-clause-beside : goal.returns-clause-beside
returns-clause-beside g c told f out =
    c.begin_redo.ensures.others told f (apart c.args.span.first c.args.span.redo f c.requires out)
    ∙ ap (λ (s : Image). s f) (c.size.ensures.seen told)
    ∙ c.sync.ensures.others told f (apart c.args.span.first c.args.span.redo f c.requires out) ∙ c.sync_files.ensures.beside told f (beyond c.args.span.first c.args.span.redo f out)
