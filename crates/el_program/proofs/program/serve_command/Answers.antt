use Rattle.std.proofs.Common.{ap}
use Rattle.el_net.specs.Devices.{LinkOverPorts}
use Rattle.el_program.proofs.Programs.{asked_for, asked_files}
use Rattle.el_program.proofs.program.serve_command.Goals as goal

pub returns-in_ok-link-in-Serve-clause-serve : goal.returns-in_ok-link-in-Serve-clause-serve
returns-in_ok-link-in-Serve-clause-serve g c is =
    asked_for _ _ c.args.command.now _ _ _ _ c.serve_over.ensures.ends c.in_ok-disk-in-Serve.ensures.0
    (rw c.in-Serve.is (ap (λ (l : LinkOverPorts). l.asked) c.in_ok-link-in-Serve.ensures))

pub returns-in_ok-4-clause-audit : goal.returns-in_ok-4-clause-audit
returns-in_ok-4-clause-audit g c is =
    asked_files _ _ c.args.command.now _ _ _ _ c.serve_over-in-Audit.ensures.ends c.in_ok-disk-in-Audit.ensures.0
