use Rattle.std.proofs.Common.{◌⊎◌, inl, inr, ◌<◌, ◌≤◌, ℕ, refl, sym, subst, ◌∙◌, arith}
use Rattle.std.proofs.lemmas.Result.{err_from_is_err_and}
use Rattle.el_outside.specs.Disk.{Image}
use Rattle.el_pages.specs.Indexes.{IsRooted}
use Rattle.el_migrate.specs.ImageChains.{IsOtherFile}
use Rattle.el_migrate.specs.within.Ready.{IsReady}
use Rattle.el_migrate.proofs.Readies.{keeps_read, keeps_after, keeps_dropped, ready_dropped, refused_failed, refused_was}
use Rattle.el_migrate.proofs.opening.prepare.Goals as goal

-- a file beyond both formats' isn't synced
beyond_first : (f : ℕ) → IsOtherFile f → (f < 0) ⊎ (10 ≤ f)
beyond_first f (inl at) = inr (omega (arith, at.0))
beyond_first f (inr at) = inr (omega (arith, at))

beyond_second : (f : ℕ) → IsOtherFile f → (f < 20) ⊎ (31 ≤ f)
beyond_second f (inl at) = inl at.1
beyond_second f (inr at) = inr (omega (arith, at))

pub returns-in_err-sync_files-clause-refused : goal.returns-in_err-sync_files-clause-refused
returns-in_err-sync_files-clause-refused g c told =
    let p = err_from_is_err_and c.from_residual.result c.from_residual.ensures.1 in
    rw (p.1, p.2) (refused_failed c.args.magic (g.D.Disk.seen c.args.disk.now) (g.D.Disk.seen c.sync_files.new.disk) _ refl)

pub returns-in_err-sync_files-clause-keeps : goal.returns-in_err-sync_files-clause-keeps
returns-in_err-sync_files-clause-keeps g c told =
    keeps_read g.D.Disk (λ d t u i le left. g.met.D.Disk.earlier d t u i told le left) c.args.magic c.args.disk.now c.sync_files.new.disk (c.sync_files.ensures.crash told)
    (λ f at. c.sync_files.ensures.beside told f (beyond_first f at))

pub returns-in_err-sync_files-2-clause-refused : goal.returns-in_err-sync_files-2-clause-refused
returns-in_err-sync_files-2-clause-refused g c told =
    let p = err_from_is_err_and c.from_residual-in_err-sync_files-2.result c.from_residual-in_err-sync_files-2.ensures.1 in
    rw (p.1, p.2) (refused_failed c.args.magic (g.D.Disk.seen c.args.disk.now) (g.D.Disk.seen c.sync_files-2.new.disk) _ refl)

pub returns-in_err-sync_files-2-clause-keeps : goal.returns-in_err-sync_files-2-clause-keeps
returns-in_err-sync_files-2-clause-keeps g c told =
    keeps_after g.D.Disk (λ d t u i le left. g.met.D.Disk.earlier d t u i told le left) c.args.magic c.args.disk.now c.sync_files.new.disk c.sync_files-2.new.disk (c.sync_files.ensures.crash told)
    (c.in_ok-sync_files.ensures.seen told)
    (keeps_read g.D.Disk (λ d t u i le left. g.met.D.Disk.earlier d t u i told le left) c.args.magic c.sync_files.new.disk c.sync_files-2.new.disk (c.sync_files-2.ensures.crash told)
    (λ f at. c.sync_files-2.ensures.beside told f (beyond_second f at)))

pub make_live-requires-clause-root_on_disk : goal.make_live-requires-clause-root_on_disk
make_live-requires-clause-root_on_disk g c told = c.in_ok-sync_files-2.ensures.durable told 30 (omega arith) (omega arith)

pub returns-in_err-make_live-clause-refused : goal.returns-in_err-make_live-clause-refused
returns-in_err-make_live-clause-refused g c told =
    let p = err_from_is_err_and c.from_residual-in_err-make_live.result c.from_residual-in_err-make_live.ensures.1 in
    let seen = c.in_ok-sync_files-2.ensures.seen told ∙ c.in_ok-sync_files.ensures.seen told in
    rw (p.1, p.2) (refused_was c.args.magic (g.D.Disk.seen c.sync_files-2.new.disk) (g.D.Disk.seen c.args.disk.now) (g.D.Disk.seen c.make_live.new.disk) _ seen (c.in_err-make_live.ensures.refused told))

pub returns-in_err-make_live-clause-keeps : goal.returns-in_err-make_live-clause-keeps
returns-in_err-make_live-clause-keeps g c told =
    keeps_after g.D.Disk (λ d t u i le left. g.met.D.Disk.earlier d t u i told le left) c.args.magic c.args.disk.now c.sync_files.new.disk c.make_live.new.disk (c.sync_files.ensures.crash told)
    (c.in_ok-sync_files.ensures.seen told)
    (keeps_after g.D.Disk (λ d t u i le left. g.met.D.Disk.earlier d t u i told le left) c.args.magic c.sync_files.new.disk c.sync_files-2.new.disk c.make_live.new.disk (c.sync_files-2.ensures.crash told)
    (c.in_ok-sync_files-2.ensures.seen told) (c.make_live.ensures.keeps told))

pub returns-in_err-drop_old-clause-refused : goal.returns-in_err-drop_old-clause-refused
returns-in_err-drop_old-clause-refused g c told =
    let p = err_from_is_err_and c.from_residual-in_err-drop_old.result c.from_residual-in_err-drop_old.ensures.1 in
    rw (p.1, p.2) (refused_failed c.args.magic (g.D.Disk.seen c.args.disk.now) (g.D.Disk.seen c.drop_old.new.disk) _ refl)

pub returns-in_err-drop_old-clause-keeps : goal.returns-in_err-drop_old-clause-keeps
returns-in_err-drop_old-clause-keeps g c told =
    keeps_dropped g.D.Disk (λ d t u i le left. g.met.D.Disk.earlier d t u i told le left) c.args.magic c.args.disk.now c.make_live.new.disk
    (keeps_after g.D.Disk (λ d t u i le left. g.met.D.Disk.earlier d t u i told le left) c.args.magic c.args.disk.now c.sync_files.new.disk c.make_live.new.disk (c.sync_files.ensures.crash told)
    (c.in_ok-sync_files.ensures.seen told)
    (keeps_after g.D.Disk (λ d t u i le left. g.met.D.Disk.earlier d t u i told le left) c.args.magic c.sync_files.new.disk c.sync_files-2.new.disk c.make_live.new.disk (c.sync_files-2.ensures.crash told)
    (c.in_ok-sync_files-2.ensures.seen told) (c.make_live.ensures.keeps told)))
    (c.in_ok-make_live.ensures.ready told).rooted c.drop_old.new.disk (c.drop_old.ensures.crash told) (c.drop_old.ensures.others told)

pub returns-clause-keeps : goal.returns-clause-keeps
returns-clause-keeps g c told =
    keeps_dropped g.D.Disk (λ d t u i le left. g.met.D.Disk.earlier d t u i told le left) c.args.magic c.args.disk.now c.make_live.new.disk
    (keeps_after g.D.Disk (λ d t u i le left. g.met.D.Disk.earlier d t u i told le left) c.args.magic c.args.disk.now c.sync_files.new.disk c.make_live.new.disk (c.sync_files.ensures.crash told)
    (c.in_ok-sync_files.ensures.seen told)
    (keeps_after g.D.Disk (λ d t u i le left. g.met.D.Disk.earlier d t u i told le left) c.args.magic c.sync_files.new.disk c.sync_files-2.new.disk c.make_live.new.disk (c.sync_files-2.ensures.crash told)
    (c.in_ok-sync_files-2.ensures.seen told) (c.make_live.ensures.keeps told)))
    (c.in_ok-make_live.ensures.ready told).rooted c.drop_old.new.disk (c.drop_old.ensures.crash told) (c.drop_old.ensures.others told)

pub returns-clause-ready : goal.returns-clause-ready
returns-clause-ready g c told =
    let seen = c.in_ok-sync_files-2.ensures.seen told ∙ c.in_ok-sync_files.ensures.seen told in
    ready_dropped g.D.Disk (λ d t u i le left. g.met.D.Disk.earlier d t u i told le left) c.args.magic c.args.bits (g.D.Disk.seen c.args.disk.now) c.make_live.new.disk c.drop_old.new.disk
    (λ d. g.met.D.Disk.reads_an_image d told)
    (subst (λ (was : Image). IsReady g.D.Disk c.args.magic c.args.bits was c.make_live.new.disk) seen (c.in_ok-make_live.ensures.ready told))
    (c.drop_old.ensures.crash told) (c.drop_old.ensures.others told)

pub returns-in_err-make_live-clause-quiet : goal.returns-in_err-make_live-clause-quiet
returns-in_err-make_live-clause-quiet g c told live =
    let seen = c.in_ok-sync_files-2.ensures.seen told ∙ c.in_ok-sync_files.ensures.seen told in
    let few = c.make_live.ensures.quiet told (subst (λ (image : Image). IsRooted image) (sym seen) live) in
    omega (arith, few, c.sync_files.ensures.calls, c.sync_files-2.ensures.calls)

pub returns-in_err-drop_old-clause-quiet : goal.returns-in_err-drop_old-clause-quiet
returns-in_err-drop_old-clause-quiet g c told live =
    let seen = c.in_ok-sync_files-2.ensures.seen told ∙ c.in_ok-sync_files.ensures.seen told in
    let few = c.make_live.ensures.quiet told (subst (λ (image : Image). IsRooted image) (sym seen) live) in
    omega (arith, few, c.sync_files.ensures.calls, c.sync_files-2.ensures.calls, c.drop_old.ensures.calls)

pub returns-clause-quiet : goal.returns-clause-quiet
returns-clause-quiet g c told live =
    let seen = c.in_ok-sync_files-2.ensures.seen told ∙ c.in_ok-sync_files.ensures.seen told in
    let few = c.make_live.ensures.quiet told (subst (λ (image : Image). IsRooted image) (sym seen) live) in
    omega (arith, few, c.sync_files.ensures.calls, c.sync_files-2.ensures.calls, c.drop_old.ensures.calls)
