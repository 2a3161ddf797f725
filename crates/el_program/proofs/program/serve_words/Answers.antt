use Rattle.std.proofs.Common.{inl}
use Rattle.el_program.specs.Program.{refused}
use Rattle.el_program.proofs.Programs.{command_served}
use Rattle.el_program.proofs.program.serve_words.Goals as goal

pub returns-in-Some-clause-serving : goal.returns-in-Some-clause-serving
returns-in-Some-clause-serving g c =
    command_served _ _ _ _ _ _ _ _ _ _ c.in-Some.command c.serve_command.result
    (rw c.in-Some.is at c.in_ok-command.ensures.found) c.serve_command.ensures.serve c.serve_command.ensures.streams
    c.serve_command.ensures.audit c.serve_command.ensures.check

pub returns-in-None-clause-serving : goal.returns-in-None-clause-serving
returns-in-None-clause-serving g c =
    inl (refused (rw c.in-None.is at c.in_ok-command.ensures.none) c.serve_nobody.ensures)
