use Rattle.std.specs.List.{AllByRecursion}
use Rattle.el_tx.specs.Encoding.{HasEncoding}
use Rattle.el_ledger_tests.proofs.laid.txs_of.Given as goal

abbrev pub invariant-loop-number : goal.invariant-loop-number
invariant-loop-number l = AllByRecursion HasEncoding l.txs.items
