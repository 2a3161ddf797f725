use Rattle.std.specs.List.{AllByRecursion}
use Rattle.el_chain.specs.Records.{IsNode}
use Rattle.el_ledger_tests.proofs.laid.nodes_of.Given as goal

abbrev pub invariant-loop-number : goal.invariant-loop-number
invariant-loop-number l = AllByRecursion IsNode l.nodes.items
