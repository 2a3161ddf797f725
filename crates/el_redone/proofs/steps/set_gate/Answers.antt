use Rattle.el_outside.specs.Disk.{Torn, OnFile}
use Rattle.el_redone.specs.Steps.{IsGated}
use Rattle.el_redone.proofs.Runs.{keeps, stays, goes_on}
use Rattle.el_redone.proofs.Images.{gated_step}
use Rattle.el_redone.proofs.steps.set_gate.Goals as goal

pub returns-in_err-write_at-clause-crash : goal.returns-in_err-write_at-clause-crash
returns-in_err-write_at-clause-crash g c told files rest each =
    keeps g.D.Disk c.args.disk.now c.write_at.new.self (IsGated c.args.span.first c.args.span.redo files rest) (OnFile c.args.span.redo (Torn 0 1))
    (c.write_at.ensures.time told) (c.write_at.ensures.crash told)
    (λ d e was step. gated_step c.args.span.first c.args.span.redo files rest d e was step) each

pub returns-clause-crash : goal.returns-clause-crash
returns-clause-crash g c told files rest each =
    goes_on g.D.Disk (λ d t u i le left. g.met.D.Disk.earlier d t u i told le left) c.args.disk.now c.write_at.new.self c.sync.new.self (IsGated c.args.span.first c.args.span.redo files rest)
    (keeps g.D.Disk c.args.disk.now c.write_at.new.self (IsGated c.args.span.first c.args.span.redo files rest) (OnFile c.args.span.redo (Torn 0 1))
    (c.write_at.ensures.time told) (c.write_at.ensures.crash told)
    (λ d e was step. gated_step c.args.span.first c.args.span.redo files rest d e was step) each)
    (λ now. stays g.D.Disk c.write_at.new.self c.sync.new.self (IsGated c.args.span.first c.args.span.redo files rest) (c.sync.ensures.time told) (c.sync.ensures.crash told) now)
