use Rattle.std.proofs.Common.{arith, rules}
use Rattle.el_tx.specs.Hashing.{txid}
use Rattle.el_plain.proofs.Mapped.{mapped_more, mapped_all}
use Rattle.el_plain.proofs.plain_calls.txids_of.Goals as goal

pub loop-tx-preserved : goal.loop-tx-preserved
loop-tx-preserved c =
    mapped_more txid c.args.txs.now c.loop-tx.tx-index c.tx-item.result c.loop-tx.found.items c.push.new.self.items _ c.loop-tx-test.true c.tx-item.is
    (search rules) c.loop-tx.invariant

pub returns : goal.returns
returns c = mapped_all txid c.args.txs.now c.loop-tx.tx-index c.loop-tx.found.items _ (let e = c.loop-tx-test.false in omega arith) c.loop-tx.invariant
