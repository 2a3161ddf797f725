use Rattle.std.proofs.Common.{rules, ◌∙◌, [], ap, sym, arith, refl}
use Rattle.std.proofs.lemmas.List.{drop_all}
use Rattle.el_chain.specs.Coins.{coins_after_all}
use Rattle.el_chain.specs.History.{history}
use Rattle.el_audit.specs.within.Lists.{is_in_set, list_of, grown}
use Rattle.el_audit.proofs.Bounds.{HasFitting, good_fits, good_few}
use Rattle.el_audit.proofs.OwnCoins.{own_none}
use Rattle.el_audit.proofs.Walks.{chain_step, coins_step, all_here, all_after, grown_none}
use Rattle.el_audit.proofs.walking.walk.Goals as goal

pub loop-height-init : goal.loop-height-init
loop-height-init c = record {
  fit = good_fits c.args.chain.now c.requires;
  stands = ([], own_none _ (is_in_set c.args.names.now) (search rules), (λ s named. ap (λ l. grown l (history c.args.chain.now s.0)) (c.in_ok-lists.ensures s named)), refl);
}

pub overflow_cast-height : goal.overflow_cast-height
overflow_cast-height c =
    let few = good_few c.args.chain.now c.requires in
    let lt = c.loop-height-test.true in
    record { fits = omega (arith, few, lt) }

pub add_txs-requires : goal.add_txs-requires
add_txs-requires c =
    rw c.as_slice-txs.ensures (all_here HasFitting c.args.chain.now c.loop-height.height c.index-chain-height.result c.loop-height-test.true c.index-chain-height.is c.loop-height.invariant.fit)

pub loop-height-preserved : goal.loop-height-preserved
loop-height-preserved c =
    let m = c.loop-height.invariant.stands in
    let b = c.index-chain-height.result in
    let lt = c.loop-height-test.true in
    record {
      fit = all_after HasFitting c.args.chain.now c.loop-height.height b lt c.index-chain-height.is c.loop-height.invariant.fit;
      stands = (
        coins_after_all c.loop-height.height c.as_slice-txs.result.now m.0,
        c.in_ok-add_txs.ensures.own m.0 m.1,
        (λ s named. chain_step s.0 c.loop-height.height c.args.chain.now b c.as_slice-txs.result.now m.0 (list_of c.loop-height.lists s) (list_of c.add_txs.new.lists s) _ lt c.index-chain-height.is
            c.as_slice-txs.ensures (m.2 s named) (c.in_ok-add_txs.ensures.lists m.0 m.1 s named)),
        m.3 ∙ coins_step c.loop-height.height c.args.chain.now b c.as_slice-txs.result.now m.0 lt c.index-chain-height.is c.as_slice-txs.ensures,
      );
    }

pub returns-clause-own : goal.returns-clause-own
returns-clause-own c =
    let m = c.loop-height.invariant.stands in
    let none = drop_all c.loop-height.height c.args.chain.now (let e = c.loop-height-test.false in omega arith) in
    let is = rw none at m.3 in
    rw is m.1

pub returns-clause-lists : goal.returns-clause-lists
returns-clause-lists c = λ s named.
    let m = c.loop-height.invariant.stands in
    let none = drop_all c.loop-height.height c.args.chain.now (let e = c.loop-height-test.false in omega arith) in
    let is = rw none at (m.2 s named) in
    sym (grown_none (list_of c.loop-height.lists s)) ∙ is
