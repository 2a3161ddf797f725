use Rattle.std.proofs.Common.{◌∙◌, sym, arith, append-nil}
use Rattle.std.proofs.lemmas.List.{drop_all}
use Rattle.el_chain.specs.Coins.{coins_after}
use Rattle.el_coins.proofs.CoinSteps.{fits_after}
use Rattle.el_plain.proofs.Histories.{block_step}
use Rattle.el_coins.proofs.Histories.{after_step}
use Rattle.el_plain.proofs.history.add_block.Goals as goal

pub loop-tx-preserved : goal.loop-tx-preserved
loop-tx-preserved c = record {
  fit = fits_after c.args.txs.now c.loop-tx.tx-index c.tx-item.result c.loop-tx-test.true c.tx-item.is c.loop-tx.invariant.fit;
  stands = λ coins h.
      let m = c.loop-tx.invariant.stands coins h in
      let t = c.tx-item.result in
      let lt = c.loop-tx-test.true in (
        coins_after c.args.height t m.0,
        c.in_ok-add_tx.ensures.own m.0 m.1,
        block_step c.args.script_hash.now.0 c.args.height c.loop-tx.tx-index c.args.txs.now t m.0 c.loop-tx.found.items c.add_tx.new.found.items _ lt c.tx-item.is m.2 (c.in_ok-add_tx.ensures.found m.0 m.1),
        m.3 ∙ after_step c.args.height c.loop-tx.tx-index c.args.txs.now t m.0 lt c.tx-item.is,
      );
}

pub returns-clause-found : goal.returns-clause-found
returns-clause-found c = λ coins h.
    let m = c.loop-tx.invariant.stands coins h in
    let none = drop_all c.loop-tx.tx-index c.args.txs.now (let e = c.loop-tx-test.false in omega arith) in
    let is = rw none at m.2 in
    sym (append-nil c.loop-tx.found.items) ∙ is

pub returns-clause-own : goal.returns-clause-own
returns-clause-own c = λ coins h.
    let m = c.loop-tx.invariant.stands coins h in
    let none = drop_all c.loop-tx.tx-index c.args.txs.now (let e = c.loop-tx-test.false in omega arith) in
    let is = rw none at m.3 in
    rw is m.1
