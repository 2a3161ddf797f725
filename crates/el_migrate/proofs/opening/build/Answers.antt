use Rattle.std.proofs.Common.{◌≢◌, ◌⊎◌, inl, inr, ◌<◌, ℕ, ◌∙◌, arith}
use Rattle.el_redone.specs.declared.steps.TheConstants.{ROOT}
use Rattle.el_redone.proofs.Runs.{now_has}
use Rattle.el_migrate.specs.ImageChains.{IsOtherFile, ImageStands}
use Rattle.el_outside.specs.Disk.{Image}
use Rattle.el_migrate.proofs.Migrations.{keeps_old, written_for, both_kept, rooted_for, built_index}
use Rattle.el_migrate.proofs.opening.build.Goals as goal

-- a file beyond both formats' isn't of format 2, nor the root
beyond_files : (f : ℕ) → IsOtherFile f → (f < 20) ⊎ (29 < f)
beyond_files f (inl at) = inl at.1
beyond_files f (inr at) = inr (omega (arith, at))

beyond_root : (f : ℕ) → IsOtherFile f → f ≢ ROOT
beyond_root f (inl at) is = omega (arith, is, at.1)
beyond_root f (inr at) is = omega (arith, is, at)

pub returns-in_err-write_new-clause-crash : goal.returns-in_err-write_new-clause-crash
returns-in_err-write_new-clause-crash g c told opened e stands =
    let m1 = c.args.disk.now in
    let small = g.met.D.Disk.small m1 9 told in
    let kept = keeps_old g.D.Disk (λ d t u i le left. g.met.D.Disk.earlier d t u i told le left) c.args.magic c.args.pages.now c.args.bits c.requires.least c.requires.most m1 opened small in
    written_for g.D.Disk (λ d t u i le left. g.met.D.Disk.earlier d t u i told le left) c.args.magic c.args.pages.now c.args.bits c.requires.least c.requires.most m1 opened small
    c.write_new.new.disk (c.write_new.ensures.crash told (g.D.Disk.seen m1) kept) e stands

pub returns-in_err-set_root-clause-crash : goal.returns-in_err-set_root-clause-crash
returns-in_err-set_root-clause-crash g c told opened e stands =
    let m1 = c.args.disk.now in
    let m2 = c.write_new.new.disk in
    let small = g.met.D.Disk.small m1 9 told in
    let kept = keeps_old g.D.Disk (λ d t u i le left. g.met.D.Disk.earlier d t u i told le left) c.args.magic c.args.pages.now c.args.bits c.requires.least c.requires.most m1 opened small in
    let write = c.write_new.ensures.crash told (g.D.Disk.seen m1) kept in
    let both = both_kept g.D.Disk (λ d t u i le left. g.met.D.Disk.earlier d t u i told le left) c.args.magic c.args.pages.now c.args.bits c.requires.least c.requires.most m1 opened small
    m2 write (c.in_ok-write_new.ensures.rows told) (c.in_ok-write_new.ensures.written told) (c.in_ok-write_new.ensures.durable told) (c.write_new.ensures.others told) in
    rooted_for g.D.Disk (λ d t u i le left. g.met.D.Disk.earlier d t u i told le left) c.args.magic c.args.pages.now c.args.bits c.requires.least c.requires.most m1 opened small
    m2 write (c.in_ok-write_new.ensures.rows told) (c.in_ok-write_new.ensures.written told) (c.in_ok-write_new.ensures.durable told) (c.write_new.ensures.others told)
    c.set_root.new.disk (c.set_root.ensures.crash told (g.D.Disk.seen m2) both) e stands

pub returns-clause-crash : goal.returns-clause-crash
returns-clause-crash g c told opened e stands =
    let m1 = c.args.disk.now in
    let m2 = c.write_new.new.disk in
    let small = g.met.D.Disk.small m1 9 told in
    let kept = keeps_old g.D.Disk (λ d t u i le left. g.met.D.Disk.earlier d t u i told le left) c.args.magic c.args.pages.now c.args.bits c.requires.least c.requires.most m1 opened small in
    let write = c.write_new.ensures.crash told (g.D.Disk.seen m1) kept in
    let both = both_kept g.D.Disk (λ d t u i le left. g.met.D.Disk.earlier d t u i told le left) c.args.magic c.args.pages.now c.args.bits c.requires.least c.requires.most m1 opened small
    m2 write (c.in_ok-write_new.ensures.rows told) (c.in_ok-write_new.ensures.written told) (c.in_ok-write_new.ensures.durable told) (c.write_new.ensures.others told) in
    rooted_for g.D.Disk (λ d t u i le left. g.met.D.Disk.earlier d t u i told le left) c.args.magic c.args.pages.now c.args.bits c.requires.least c.requires.most m1 opened small
    m2 write (c.in_ok-write_new.ensures.rows told) (c.in_ok-write_new.ensures.written told) (c.in_ok-write_new.ensures.durable told) (c.write_new.ensures.others told)
    c.set_root.new.disk (c.set_root.ensures.crash told (g.D.Disk.seen m2) both) e stands

pub returns-in_err-write_new-clause-later : goal.returns-in_err-write_new-clause-later
returns-in_err-write_new-clause-later g c told opened =
    let m1 = c.args.disk.now in
    let small = g.met.D.Disk.small m1 9 told in
    let kept = keeps_old g.D.Disk (λ d t u i le left. g.met.D.Disk.earlier d t u i told le left) c.args.magic c.args.pages.now c.args.bits c.requires.least c.requires.most m1 opened small in
    (c.write_new.ensures.crash told (g.D.Disk.seen m1) kept).later

pub returns-in_err-set_root-clause-later : goal.returns-in_err-set_root-clause-later
returns-in_err-set_root-clause-later g c told opened =
    let m1 = c.args.disk.now in
    let m2 = c.write_new.new.disk in
    let small = g.met.D.Disk.small m1 9 told in
    let kept = keeps_old g.D.Disk (λ d t u i le left. g.met.D.Disk.earlier d t u i told le left) c.args.magic c.args.pages.now c.args.bits c.requires.least c.requires.most m1 opened small in
    let write = c.write_new.ensures.crash told (g.D.Disk.seen m1) kept in
    let both = both_kept g.D.Disk (λ d t u i le left. g.met.D.Disk.earlier d t u i told le left) c.args.magic c.args.pages.now c.args.bits c.requires.least c.requires.most m1 opened small
    m2 write (c.in_ok-write_new.ensures.rows told) (c.in_ok-write_new.ensures.written told) (c.in_ok-write_new.ensures.durable told) (c.write_new.ensures.others told) in
    omega (arith, write.later, (c.set_root.ensures.crash told (g.D.Disk.seen m2) both).later)

pub returns-clause-later : goal.returns-clause-later
returns-clause-later g c told opened =
    let m1 = c.args.disk.now in
    let m2 = c.write_new.new.disk in
    let small = g.met.D.Disk.small m1 9 told in
    let kept = keeps_old g.D.Disk (λ d t u i le left. g.met.D.Disk.earlier d t u i told le left) c.args.magic c.args.pages.now c.args.bits c.requires.least c.requires.most m1 opened small in
    let write = c.write_new.ensures.crash told (g.D.Disk.seen m1) kept in
    let both = both_kept g.D.Disk (λ d t u i le left. g.met.D.Disk.earlier d t u i told le left) c.args.magic c.args.pages.now c.args.bits c.requires.least c.requires.most m1 opened small
    m2 write (c.in_ok-write_new.ensures.rows told) (c.in_ok-write_new.ensures.written told) (c.in_ok-write_new.ensures.durable told) (c.write_new.ensures.others told) in
    omega (arith, write.later, (c.set_root.ensures.crash told (g.D.Disk.seen m2) both).later)

pub returns-clause-chain : goal.returns-clause-chain
returns-clause-chain g c told opened e stands =
    now_has g.D.Disk (λ d t u i le left. g.met.D.Disk.earlier d t u i told le left) c.args.disk.now c.set_root.new.disk (λ (image : Image). ImageStands c.args.magic image e)
    (returns-clause-crash g c told opened e stands) (g.D.Disk.seen c.set_root.new.disk) (g.met.D.Disk.reads_an_image c.set_root.new.disk told)

pub returns-clause-moved : goal.returns-clause-moved
returns-clause-moved g c told opened =
    built_index g.D.Disk (λ d t u i le left. g.met.D.Disk.earlier d t u i told le left) c.args.magic c.args.pages.now c.args.bits c.requires.least c.requires.most c.args.disk.now opened
    (g.met.D.Disk.small c.args.disk.now 9 told) (g.D.Disk.seen c.write_new.new.disk) (g.D.Disk.seen c.set_root.new.disk)
    (c.in_ok-write_new.ensures.grown told) (c.in_ok-write_new.ensures.written told)
    (λ f low lt. c.set_root.ensures.others told f (λ is. omega (arith, is, lt)))

pub returns-in_err-write_new-clause-others : goal.returns-in_err-write_new-clause-others
returns-in_err-write_new-clause-others g c told f at = c.write_new.ensures.others told f (beyond_files f at)

pub returns-in_err-set_root-clause-others : goal.returns-in_err-set_root-clause-others
returns-in_err-set_root-clause-others g c told f at = c.set_root.ensures.others told f (beyond_root f at) ∙ c.write_new.ensures.others told f (beyond_files f at)

pub returns-clause-others : goal.returns-clause-others
returns-clause-others g c told f at = c.set_root.ensures.others told f (beyond_root f at) ∙ c.write_new.ensures.others told f (beyond_files f at)
