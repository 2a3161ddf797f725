use Rattle.std.proofs.Common.{IfErr, OnOk, refl, ap, subst}
use Rattle.std.proofs.lemmas.Result.{err_from_is_err_and}
use Rattle.el_outside.specs.Disk.{Image}
use Rattle.el_migrate.specs.within.Ready.{IsReady, IsOpeningRefused}
use Rattle.el_migrate.proofs.Readies.{keeps_read, keeps_after, ready_live, refused_failed}
use Rattle.el_migrate.proofs.opening.make_live.Goals as goal

pub returns-in_err-is_rooted-clause-refused : goal.returns-in_err-is_rooted-clause-refused
returns-in_err-is_rooted-clause-refused g c told =
    let p = err_from_is_err_and c.from_residual.result c.from_residual.ensures.1 in
    rw (p.1, p.2) (refused_failed c.args.magic (g.D.Disk.seen c.args.disk.now) (g.D.Disk.seen c.is_rooted.new.disk) _ refl)

pub returns-in_err-is_rooted-clause-keeps : goal.returns-in_err-is_rooted-clause-keeps
returns-in_err-is_rooted-clause-keeps g c told =
    keeps_read g.D.Disk (λ d t u i le left. g.met.D.Disk.earlier d t u i told le left) c.args.magic c.args.disk.now c.is_rooted.new.disk (c.is_rooted.ensures.crash told)
    (λ f at. ap (λ (s : Image). s f) (c.is_rooted.ensures.seen told))

pub returns-then-branch-clause-keeps : goal.returns-then-branch-clause-keeps
returns-then-branch-clause-keeps g c told =
    keeps_read g.D.Disk (λ d t u i le left. g.met.D.Disk.earlier d t u i told le left) c.args.magic c.args.disk.now c.is_rooted.new.disk (c.is_rooted.ensures.crash told)
    (λ f at. ap (λ (s : Image). s f) (c.is_rooted.ensures.seen told))

pub returns-then-branch-clause-ready : goal.returns-then-branch-clause-ready
returns-then-branch-clause-ready g c told =
    ready_live g.D.Disk (λ d t u i le left. g.met.D.Disk.earlier d t u i told le left) c.args.magic c.args.disk.now c.is_rooted.new.disk c.args.bits (c.is_rooted.ensures.crash told)
    (c.is_rooted.ensures.seen told) ((c.in_ok-is_rooted.ensures.rooted told).0 c.if-branch.true) (c.requires.root_on_disk told)

pub returns-clause-keeps : goal.returns-clause-keeps
returns-clause-keeps g c told =
    keeps_after g.D.Disk (λ d t u i le left. g.met.D.Disk.earlier d t u i told le left) c.args.magic c.args.disk.now c.is_rooted.new.disk c.migrate.new.disk (c.is_rooted.ensures.crash told)
    (c.is_rooted.ensures.seen told) (c.migrate.ensures.keeps told)

pub returns-clause-ready : goal.returns-clause-ready
returns-clause-ready g c told =
    subst (λ (was : Image). OnOk c.migrate.result (IsReady g.D.Disk c.args.magic c.args.bits was c.migrate.new.disk)) (c.is_rooted.ensures.seen told) (c.migrate.ensures.ready told)

pub returns-clause-refused : goal.returns-clause-refused
returns-clause-refused g c told =
    subst (λ (was : Image). IfErr c.migrate.result (λ e. IsOpeningRefused c.args.magic was (g.D.Disk.seen c.migrate.new.disk) e)) (c.is_rooted.ensures.seen told) (c.migrate.ensures.refused told)

pub returns-clause-quiet : goal.returns-clause-quiet
returns-clause-quiet g c told live = absurd (let yes_is = (c.in_ok-is_rooted.ensures.rooted told).1 live in let not_is = c.if-branch.false in cc (yes_is, not_is))
