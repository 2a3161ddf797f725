use Rattle.std.proofs.Common.{◌∙◌, sym, arith, refl}
use Rattle.std.proofs.lemmas.List.{drop_all}
use Rattle.el_chain.specs.CoinLists.{FitsBlock}
use Rattle.el_chain.specs.Coins.{coins_after}
use Rattle.el_audit.specs.within.Lists.{list_of}
use Rattle.el_audit.proofs.Walks.{txs_step, tx_step, all_here, all_after, grown_none}
use Rattle.el_audit.proofs.walking.add_txs.Goals as goal

pub loop-tx-init : goal.loop-tx-init
loop-tx-init c = record { fit = c.requires; stands = λ coins h. (coins, h, (λ s named. refl), refl) }

pub add_tx-requires : goal.add_tx-requires
add_tx-requires c = all_here FitsBlock c.args.txs.now c.loop-tx.tx-index c.tx-item.result c.loop-tx-test.true c.tx-item.is c.loop-tx.invariant.fit

pub loop-tx-preserved : goal.loop-tx-preserved
loop-tx-preserved c = record {
  fit = all_after FitsBlock c.args.txs.now c.loop-tx.tx-index c.tx-item.result c.loop-tx-test.true c.tx-item.is c.loop-tx.invariant.fit;
  stands = λ coins h.
      let m = c.loop-tx.invariant.stands coins h in
      let t = c.tx-item.result in
      let lt = c.loop-tx-test.true in (
        coins_after c.args.height t m.0,
        c.in_ok-add_tx.ensures.own m.0 m.1,
        λ s named. txs_step s.0 c.args.height c.loop-tx.tx-index c.args.txs.now t m.0 (list_of c.loop-tx.lists s) (list_of c.add_tx.new.lists s) _ lt c.tx-item.is (m.2 s named)
            (c.in_ok-add_tx.ensures.lists m.0 m.1 s named),
        m.3 ∙ tx_step c.args.height c.loop-tx.tx-index c.args.txs.now t m.0 lt c.tx-item.is,
      );
}

pub returns-clause-own : goal.returns-clause-own
returns-clause-own c = λ coins h.
    let m = c.loop-tx.invariant.stands coins h in
    let none = drop_all c.loop-tx.tx-index c.args.txs.now (let e = c.loop-tx-test.false in omega arith) in
    let is = rw none at m.3 in
    rw is m.1

pub returns-clause-lists : goal.returns-clause-lists
returns-clause-lists c = λ coins h s named.
    let m = c.loop-tx.invariant.stands coins h in
    let none = drop_all c.loop-tx.tx-index c.args.txs.now (let e = c.loop-tx-test.false in omega arith) in
    let is = rw none at (m.2 s named) in
    sym (grown_none (list_of c.loop-tx.lists s)) ∙ is
