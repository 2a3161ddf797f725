use Rattle.el_server_tests.proofs.server.make_step.Goals.{in-Part+in_ok-run-in-Part}
use Rattle.el_server_tests.proofs.server.make_step.Goals.{in-Fails+in_ok-run-in-Fails}
use Rattle.el_server_tests.proofs.server.make_step.Goals.{in-Opens+in_ok-open-in-Opens}
use Rattle.el_server_tests.proofs.server.make_step.Goals.{in-Says+in_ok-hear-in-Says}
use Rattle.el_server_tests.proofs.server.make_step.Goals.{in-Spells+in_ok-spell-in-Spells}
use Rattle.el_server_tests.proofs.server.make_step.Goals.{in-Gone, in-Forget}
use Rattle.el_server_tests.proofs.server.make_step.Goals as goal

pub returns-clause-numbers : goal.returns-clause-numbers
returns-clause-numbers g c = c.work_off.ensures.numbers c.match-step.run.last (elim c.match-step.branch [
  | in-Part+in_ok-run-in-Part w ↦ rw w.run-is c.requires.numbers
  | in-Fails+in_ok-run-in-Fails w ↦ rw w.run-is c.requires.numbers
  | in-Opens+in_ok-open-in-Opens w ↦ rw w.run-is w.in_ok-open-in-Opens.ensures.numbers
  | in-Says+in_ok-hear-in-Says w ↦ rw w.run-is w.in_ok-hear-in-Says.ensures.numbers
  | in-Spells+in_ok-spell-in-Spells w ↦ rw w.run-is w.in_ok-spell-in-Spells.ensures.numbers
  | in-Gone w ↦ rw w.run-is (w.gone.ensures.numbers _ c.requires.numbers)
  | in-Forget w ↦ rw w.run-is c.requires.numbers
])
