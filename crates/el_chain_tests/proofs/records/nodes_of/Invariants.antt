use Rattle.std.specs.List.{AllByRecursion}
use Rattle.el_chain.specs.Records.{IsNode}
use Rattle.el_chain_tests.proofs.records.nodes_of.Given as goal

abbrev pub invariant-loop-record : goal.invariant-loop-record
invariant-loop-record l = AllByRecursion IsNode l.nodes.items
