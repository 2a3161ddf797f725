use Rattle.std.specs.Prelude.{length}
use Rattle.el_ledger_tests.proofs.laid.+given_by.Given as goal

abbrev pub decreases-given_by : goal.decreases-given_by
decreases-given_by l = length l.to.now
