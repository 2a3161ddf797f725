use Rattle.el_outside.specs.Disk.{OnFile, Torn}
use Rattle.el_redone.specs.declared.steps.TheConstants.{ROOT}
use Rattle.el_redone.proofs.Runs.{keeps, stays, goes_on}
use Rattle.el_migrate.specs.within.Rooting.{HasBothFiles}
use Rattle.el_migrate.proofs.Images.{root_kept}
use Rattle.el_migrate.proofs.opening.set_root.Goals as goal

pub returns-in_err-write_at-clause-crash : goal.returns-in_err-write_at-clause-crash
returns-in_err-write_at-clause-crash g c told files each =
    keeps g.D.Disk c.args.disk.now c.write_at.new.self (HasBothFiles files) (OnFile ROOT (Torn 0 1)) (c.write_at.ensures.time told) (c.write_at.ensures.crash told)
    (λ d e was on. root_kept files d e (Torn 0 1) was on) each

pub returns-clause-crash : goal.returns-clause-crash
returns-clause-crash g c told files each =
    goes_on g.D.Disk (λ d t u i le left. g.met.D.Disk.earlier d t u i told le left) c.args.disk.now c.write_at.new.self c.sync.new.self (HasBothFiles files)
    (keeps g.D.Disk c.args.disk.now c.write_at.new.self (HasBothFiles files) (OnFile ROOT (Torn 0 1)) (c.write_at.ensures.time told) (c.write_at.ensures.crash told)
    (λ d e was on. root_kept files d e (Torn 0 1) was on) each)
    (λ now. stays g.D.Disk c.write_at.new.self c.sync.new.self (HasBothFiles files) (c.sync.ensures.time told) (c.sync.ensures.crash told) now)
