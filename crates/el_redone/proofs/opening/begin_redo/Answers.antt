use Rattle.std.proofs.Common.{◌≡◌, ap, ◌∙◌}
use Rattle.el_outside.specs.Disk.{Image}
use Rattle.std.proofs.lemmas.Result.{on_ok_weaker}
use Rattle.el_redone.specs.Steps.{IsBegun}
use Rattle.el_redone.proofs.Runs.{stays, goes_on}
use Rattle.el_redone.proofs.Begins.{begun_file, begun_write}
use Rattle.el_redone.proofs.opening.begin_redo.Goals as goal

pub returns-in_err-write_at-clause-crash : goal.returns-in_err-write_at-clause-crash
returns-in_err-write_at-clause-crash g c told short on_disk =
    begun_write g.D.Disk c.args.span.redo (λ d t u i le left. g.met.D.Disk.earlier d t u i told le left) c.args.disk.now c.write_at.new.self short on_disk (c.write_at.ensures.time told) (c.write_at.ensures.crash told)

pub returns-clause-crash : goal.returns-clause-crash
returns-clause-crash g c told short on_disk =
    goes_on g.D.Disk (λ d t u i le left. g.met.D.Disk.earlier d t u i told le left) c.args.disk.now c.write_at.new.self c.sync.new.self (IsBegun g.D.Disk c.args.span.redo c.args.disk.now)
    (begun_write g.D.Disk c.args.span.redo (λ d t u i le left. g.met.D.Disk.earlier d t u i told le left) c.args.disk.now c.write_at.new.self short on_disk (c.write_at.ensures.time told) (c.write_at.ensures.crash told))
    (λ now. stays g.D.Disk c.write_at.new.self c.sync.new.self (IsBegun g.D.Disk c.args.span.redo c.args.disk.now) (c.sync.ensures.time told) (c.sync.ensures.crash told) now)

pub returns-clause-begun : goal.returns-clause-begun
returns-clause-begun g c told short =
    on_ok_weaker c.sync.result (λ (same : g.D.Disk.seen c.sync.new.self ≡ g.D.Disk.seen c.write_at.new.self). ap (λ (s : Image). s c.args.span.redo) same ∙ c.in_ok-write_at.ensures.written told ∙ begun_file (g.D.Disk.seen c.args.disk.now c.args.span.redo) short)
    (c.sync.ensures.seen told)
