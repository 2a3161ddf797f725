use Rattle.std.proofs.Common.{◌≡◌, ℕ, List, [], ◌∷◌, length, refl, ap, ◌∙◌, arith}
use Rattle.std.proofs.lemmas.Result.{on_ok_weaker}
use Rattle.el_outside.specs.Disk.{Image, OnFile, Cut}
use Rattle.el_redone.proofs.Runs.{keeps, stays, goes_on}
use Rattle.el_migrate.specs.within.Rooting.{HasNewFiles}
use Rattle.el_migrate.proofs.Images.{new_kept, new_self}
use Rattle.el_migrate.proofs.opening.drop_file.Goals as goal

none_in : (file : List ℕ) → length file ≡ 0 → file ≡ []
none_in [] is = refl
none_in (x ∷ rest) is = absurd (omega (arith, is))

pub returns-in_err-size-clause-crash : goal.returns-in_err-size-clause-crash
returns-in_err-size-clause-crash g c told =
    stays g.D.Disk c.args.disk.now c.size.new.self (HasNewFiles g.D.Disk c.args.disk.now) (c.size.ensures.time told) (c.size.ensures.crash told) (new_self g.D.Disk c.args.disk.now)

pub returns-then-branch-eq0-clause-crash : goal.returns-then-branch-eq0-clause-crash
returns-then-branch-eq0-clause-crash g c told =
    stays g.D.Disk c.args.disk.now c.size.new.self (HasNewFiles g.D.Disk c.args.disk.now) (c.size.ensures.time told) (c.size.ensures.crash told) (new_self g.D.Disk c.args.disk.now)

pub returns-in_err-cut-clause-crash : goal.returns-in_err-cut-clause-crash
returns-in_err-cut-clause-crash g c told =
    goes_on g.D.Disk (λ d t u i le left. g.met.D.Disk.earlier d t u i told le left) c.args.disk.now c.size.new.self c.cut.new.self (HasNewFiles g.D.Disk c.args.disk.now)
    (stays g.D.Disk c.args.disk.now c.size.new.self (HasNewFiles g.D.Disk c.args.disk.now) (c.size.ensures.time told) (c.size.ensures.crash told) (new_self g.D.Disk c.args.disk.now))
    (λ now. keeps g.D.Disk c.size.new.self c.cut.new.self (HasNewFiles g.D.Disk c.args.disk.now) (OnFile c.args.file (Cut 0)) (c.cut.ensures.time told) (c.cut.ensures.crash told)
    (λ d e was on. new_kept g.D.Disk c.args.disk.now d e c.args.file (Cut 0) c.requires was on) now)

pub returns-clause-crash : goal.returns-clause-crash
returns-clause-crash g c told =
    goes_on g.D.Disk (λ d t u i le left. g.met.D.Disk.earlier d t u i told le left) c.args.disk.now c.cut.new.self c.sync.new.self (HasNewFiles g.D.Disk c.args.disk.now)
    (goes_on g.D.Disk (λ d t u i le left. g.met.D.Disk.earlier d t u i told le left) c.args.disk.now c.size.new.self c.cut.new.self (HasNewFiles g.D.Disk c.args.disk.now)
    (stays g.D.Disk c.args.disk.now c.size.new.self (HasNewFiles g.D.Disk c.args.disk.now) (c.size.ensures.time told) (c.size.ensures.crash told) (new_self g.D.Disk c.args.disk.now))
    (λ now. keeps g.D.Disk c.size.new.self c.cut.new.self (HasNewFiles g.D.Disk c.args.disk.now) (OnFile c.args.file (Cut 0)) (c.cut.ensures.time told) (c.cut.ensures.crash told)
    (λ d e was on. new_kept g.D.Disk c.args.disk.now d e c.args.file (Cut 0) c.requires was on) now))
    (λ now. stays g.D.Disk c.cut.new.self c.sync.new.self (HasNewFiles g.D.Disk c.args.disk.now) (c.sync.ensures.time told) (c.sync.ensures.crash told) now)

pub returns-then-branch-eq0-clause-empty : goal.returns-then-branch-eq0-clause-empty
returns-then-branch-eq0-clause-empty g c told =
    let size = c.in_ok-size.ensures.size told in
    ap (λ (s : Image). s c.args.file) (c.size.ensures.seen told) ∙ none_in (g.D.Disk.seen c.args.disk.now c.args.file) (omega (arith, size, c.if-branch-eq0.true))

pub returns-clause-empty : goal.returns-clause-empty
returns-clause-empty g c told =
    on_ok_weaker c.sync.result (λ same. ap (λ (s : Image). s c.args.file) same ∙ c.in_ok-cut.ensures.cut told) (c.sync.ensures.seen told)

pub returns-in_err-size-clause-others : goal.returns-in_err-size-clause-others
returns-in_err-size-clause-others g c told f ne = ap (λ (s : Image). s f) (c.size.ensures.seen told)

pub returns-then-branch-eq0-clause-others : goal.returns-then-branch-eq0-clause-others
returns-then-branch-eq0-clause-others g c told f ne = ap (λ (s : Image). s f) (c.size.ensures.seen told)

pub returns-in_err-cut-clause-others : goal.returns-in_err-cut-clause-others
returns-in_err-cut-clause-others g c told f ne = c.cut.ensures.others told f ne ∙ ap (λ (s : Image). s f) (c.size.ensures.seen told)

pub returns-clause-others : goal.returns-clause-others
returns-clause-others g c told f ne = c.sync.ensures.others told f ne ∙ c.cut.ensures.others told f ne ∙ ap (λ (s : Image). s f) (c.size.ensures.seen told)
