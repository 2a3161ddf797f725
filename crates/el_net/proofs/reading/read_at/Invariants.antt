use Rattle.std.proofs.Common.{◌≤◌, length}
use Rattle.el_net.proofs.reading.read_at.Given as goal

abbrev pub invariant-loop : goal.invariant-loop
invariant-loop l = l.done ≤ length l.buf
