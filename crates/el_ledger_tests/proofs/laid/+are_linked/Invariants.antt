use Rattle.std.specs.Prelude.{length}
use Rattle.el_ledger_tests.proofs.laid.+are_linked.Given as goal

abbrev pub decreases-are_linked : goal.decreases-are_linked
decreases-are_linked l = length l.nodes.now
