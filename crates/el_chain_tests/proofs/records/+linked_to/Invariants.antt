use Rattle.std.specs.Prelude.{length}
use Rattle.el_chain_tests.proofs.records.+linked_to.Given as goal

abbrev pub decreases-linked_to : goal.decreases-linked_to
decreases-linked_to l = length l.nodes.now
