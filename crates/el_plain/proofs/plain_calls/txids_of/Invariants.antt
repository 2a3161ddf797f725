use Rattle.std.proofs.Common.{◌≡◌, ◌++◌, map, drop}
use Rattle.el_tx.specs.Hashing.{txid}
use Rattle.el_plain.proofs.plain_calls.txids_of.Given as goal

abbrev pub invariant-loop-tx : goal.invariant-loop-tx
invariant-loop-tx l = l.found.items ++ map txid (drop l.tx-index l.txs) ≡ map txid l.txs
