use Rattle.std.proofs.Common.{◌∙◌, arith}
use Rattle.std.proofs.lemmas.List.{drop_all}
use Rattle.el_chain.specs.Coins.{coins_left, coins_after}
use Rattle.el_coins.proofs.Histories.{after_step}
use Rattle.el_plain.specs.within.Light.{HasFewOutputs}
use Rattle.el_plain.proofs.OwnCoins.{all_after, all_here}
use Rattle.el_plain.proofs.own_coins.add_txs.Goals as goal

pub add_outputs-requires : goal.add_outputs-requires
add_outputs-requires c =
    let few = all_here HasFewOutputs c.args.txs.now c.loop-tx.tx-index c.tx-item.result c.loop-tx-test.true c.tx-item.is c.loop-tx.invariant.fit in
    rw c.as_slice.ensures (omega (arith, few))

pub loop-tx-preserved : goal.loop-tx-preserved
loop-tx-preserved c = record {
  fit = all_after HasFewOutputs c.args.txs.now c.loop-tx.tx-index c.tx-item.result c.loop-tx-test.true c.tx-item.is c.loop-tx.invariant.fit;
  stands = λ coins h.
      let m = c.loop-tx.invariant.stands coins h in
      let t = c.tx-item.result in (
        coins_after c.args.height t m.0,
        rw (c.txid_of.ensures, c.as_slice.ensures) at (c.in_ok-add_outputs.ensures (coins_left t m.0) (c.in_ok-take_spent.ensures c.args.script_hash.now.0 m.0 m.1)),
        m.2 ∙ after_step c.args.height c.loop-tx.tx-index c.args.txs.now t m.0 c.loop-tx-test.true c.tx-item.is,
      );
}

pub returns : goal.returns
returns c = λ coins h.
    let m = c.loop-tx.invariant.stands coins h in
    let none = drop_all c.loop-tx.tx-index c.args.txs.now (let e = c.loop-tx-test.false in omega arith) in
    let is = rw none at m.2 in
    rw is m.1
