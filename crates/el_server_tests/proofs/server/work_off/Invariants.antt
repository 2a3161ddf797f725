use Rattle.std.proofs.Common.{ℕ}
use Rattle.el_core.specs.State.{AreUpTo, work}
use Rattle.el_server_tests.proofs.server.work_off.Given as goal

abbrev pub invariant-loop-outs : goal.invariant-loop-outs
invariant-loop-outs g l = (last : ℕ) → AreUpTo last l.initial.server.clients → AreUpTo last l.server.clients

abbrev pub decreases-loop-outs : goal.decreases-loop-outs
decreases-loop-outs g l = work l.server
