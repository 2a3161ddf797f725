use Rattle.std.proofs.Common.{◌≡◌, ◌≢◌, ◌⊎◌, inl, inr, ⊎_elim, ℕ, ◌∙◌, arith}
use Rattle.std.proofs.lemmas.Result.{err_from_is_err_and}
use Rattle.el_redo.specs.declared.faults.OpenFault.{OpenFault}
use Rattle.el_redo.specs.declared.faults.OpenFault.TheVariants as fault
use Rattle.el_redone.specs.declared.steps.TheConstants.{ROOT}
use Rattle.el_migrate.specs.ImageChains.{IsOtherFile}
use Rattle.el_migrate.specs.within.Ready.{IsOpeningRefused}
use Rattle.el_migrate.specs.within.Rooting.{IsOpenedOld}
use Rattle.el_migrate.proofs.OldLimits.{limits_1}
use Rattle.el_migrate.proofs.Openings.{err_more}
use Rattle.el_migrate.proofs.Readies.{beyond_old, refused_old, refused_move}
use Rattle.el_migrate.proofs.Migrations.{opened_one, opened_like, moved_one, opened_chain, opened_index, ready_moved}
use Rattle.el_migrate.proofs.opening.migrate.Goals as goal

beyond_root : (f : ℕ) → IsOtherFile f → f ≢ ROOT
beyond_root f (inl at) is = omega (arith, is, at.1)
beyond_root f (inr at) is = omega (arith, is, at)

pub returns-in_err-pages-clause-refused : goal.returns-in_err-pages-clause-refused
returns-in_err-pages-clause-refused g c told =
    let p = err_from_is_err_and c.from_residual.result c.from_residual.ensures.1 in
    rw (p.1, p.2) (refused_old c.args.magic (g.D.Disk.seen c.args.disk.now) (g.D.Disk.seen c.open_old.new.disk) _ (c.requires.unrooted told)
    (c.in_err-pages.ensures.bad told) (c.in_err-pages.ensures.is_bad told) (λ tables i. c.in_err-pages.ensures.opens told tables i.shows i.heads) (c.in_err-pages.ensures.untouched told))

pub returns-in_err-pages-clause-keeps : goal.returns-in_err-pages-clause-keeps
returns-in_err-pages-clause-keeps g c told = record {
  crash = opened_one g.D.Disk (λ d t u i le left. g.met.D.Disk.earlier d t u i told le left) (λ d. g.met.D.Disk.reads_an_image d told) c.args.magic c.args.disk.now c.open_old.new.disk
      (c.requires.unrooted told) (c.requires.root_on_disk told) (c.open_old.ensures.crash told);
  like = λ h. opened_like g.D.Disk (λ d t u i le left. g.met.D.Disk.earlier d t u i told le left) (λ d. g.met.D.Disk.reads_an_image d told) c.args.magic c.args.disk.now c.open_old.new.disk
      (c.requires.unrooted told) (c.requires.root_on_disk told) (c.open_old.ensures.crash told);
  later = (c.open_old.ensures.crash told).later;
  others = λ f at. c.open_old.ensures.beside told f (beyond_root f at) (beyond_old f at);
}

pub returns-clause-refused : goal.returns-clause-refused
returns-clause-refused g c told =
    let index = opened_index c.args.magic c.in_ok-pages.pages (g.D.Disk.seen c.args.disk.now) (g.D.Disk.seen c.open_old.new.disk) (c.in_ok-pages.ensures.has told) (c.in_ok-pages.ensures.stands told) c.in_ok-pages.ensures.heads in
    err_more c.build.result (λ (e : OpenFault). (e ≡ fault.DiskFailed) ⊎ (e ≡ fault.Memory)) (λ (e : OpenFault). IsOpeningRefused c.args.magic (g.D.Disk.seen c.args.disk.now) (g.D.Disk.seen c.build.new.disk) e)
    (λ e which. refused_move c.args.magic (g.D.Disk.seen c.args.disk.now) (g.D.Disk.seen c.build.new.disk) e (c.requires.unrooted told) which index (c.in_ok-pages.ensures.is_bad told))
    c.build.ensures.only

pub returns-clause-keeps : goal.returns-clause-keeps
returns-clause-keeps g c told =
    let m1 = c.open_old.new.disk in
    let opened : IsOpenedOld g.D.Disk c.args.magic c.in_ok-pages.pages m1 = record {
      rest = c.in_ok-pages.ensures.rest told;
      has = c.in_ok-pages.ensures.has told;
      limited = λ t. (let le = c.in_ok-pages.ensures.limited t in omega (arith, le, limits_1 t));
    } in
    let index = opened_index c.args.magic c.in_ok-pages.pages (g.D.Disk.seen c.args.disk.now) (g.D.Disk.seen m1) (c.in_ok-pages.ensures.has told) (c.in_ok-pages.ensures.stands told) c.in_ok-pages.ensures.heads in
    record {
      crash = moved_one g.D.Disk (λ d t u i le left. g.met.D.Disk.earlier d t u i told le left) (λ d. g.met.D.Disk.reads_an_image d told) c.args.magic c.args.disk.now m1
          (c.requires.unrooted told) (c.requires.root_on_disk told) (c.open_old.ensures.crash told) c.build.new.disk (c.build.ensures.crash told opened);
      like = λ h. absurd (⊎_elim (λ r. c.requires.unrooted told r) (λ none. none index.0 (inr (c.requires.unrooted told, index.1))) h);
      later = omega (arith, (c.open_old.ensures.crash told).later, c.build.ensures.later told opened);
      others = λ f at. c.build.ensures.others told f at ∙ c.open_old.ensures.beside told f (beyond_root f at) (beyond_old f at);
    }

pub returns-clause-ready : goal.returns-clause-ready
returns-clause-ready g c told =
    let m1 = c.open_old.new.disk in
    let opened : IsOpenedOld g.D.Disk c.args.magic c.in_ok-pages.pages m1 = record {
      rest = c.in_ok-pages.ensures.rest told;
      has = c.in_ok-pages.ensures.has told;
      limited = λ t. (let le = c.in_ok-pages.ensures.limited t in omega (arith, le, limits_1 t));
    } in
    let index = opened_index c.args.magic c.in_ok-pages.pages (g.D.Disk.seen c.args.disk.now) (g.D.Disk.seen m1) (c.in_ok-pages.ensures.has told) (c.in_ok-pages.ensures.stands told) c.in_ok-pages.ensures.heads in
    ready_moved g.D.Disk c.args.magic c.args.bits (g.D.Disk.seen c.args.disk.now) (g.D.Disk.seen m1) c.build.new.disk c.build.result (c.requires.unrooted told) index (c.in_ok-pages.ensures.is_bad told)
    (opened_chain g.D.Disk (λ d t u i le left. g.met.D.Disk.earlier d t u i told le left) (λ d. g.met.D.Disk.reads_an_image d told) c.args.magic c.args.disk.now m1
    (c.requires.unrooted told) (c.requires.root_on_disk told) (c.open_old.ensures.crash told) (c.in_ok-pages.ensures.stands told) opened.rest.closed (g.met.D.Disk.small c.args.disk.now 9 told))
    (c.build.ensures.rooted told) (c.build.ensures.moved told opened) (c.build.ensures.chain told opened)
