use Rattle.std.specs.Prelude.{◌≡◌, map, take}
use Rattle.el_tx.specs.Hashing.{txid}
use Rattle.el_gen.proofs.blocks.txids.Given as goal

abbrev pub invariant-loop-tx : goal.invariant-loop-tx
invariant-loop-tx l = l.list.items ≡ map txid (take l.tx-index l.txs)
