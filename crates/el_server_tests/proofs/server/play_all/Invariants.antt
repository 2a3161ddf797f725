use Rattle.el_core.specs.State.{AreUpTo, IsIdle}
use Rattle.el_server_tests.proofs.server.play_all.Given as goal

abbrev pub invariant-loop-step : goal.invariant-loop-step
invariant-loop-step g l = record {
  idle : IsIdle l.run.server;
  numbers : AreUpTo l.run.last l.run.server.clients;
}
