use Rattle.std.proofs.Common.{◌≡◌, ◌++◌, take, flat_map}
use Rattle.el_tx.specs.Hashing.{full_encoding}
use Rattle.el_gen.proofs.blocks.write_txs.Given as goal

abbrev pub invariant-loop-tx : goal.invariant-loop-tx
invariant-loop-tx l = l.out.items ≡ l.fn.out.items ++ flat_map full_encoding (take l.tx-index l.txs)
