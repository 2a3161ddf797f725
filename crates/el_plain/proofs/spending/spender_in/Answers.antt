use Rattle.std.proofs.Common.{◌+◌, length, ◌∙◌, sym, ap, arith, refl}
use Rattle.std.proofs.lemmas.List.{drop_all}
use Rattle.std.specs.List.{fold}
use Rattle.el_tx.specs.Hashing.{full_encoding}
use Rattle.el_chain.specs.Coins.{coins_after}
use Rattle.el_chain.specs.History.{positions_in}
use Rattle.el_model.specs.Queries.{taken_after}
use Rattle.el_plain.proofs.Spenders.{spender_step}
use Rattle.el_plain.proofs.spending.spender_in.Goals as goal

pub loop-tx-init : goal.loop-tx-init
loop-tx-init c = λ pos start coins. (pos, start, coins, refl)

pub loop-tx-preserved : goal.loop-tx-preserved
loop-tx-preserved c = λ pos start coins.
    let m = c.loop-tx.invariant pos start coins in
    let t = c.tx-item.result in (
      m.0 + 1,
      m.1 + length (full_encoding t),
      coins_after c.args.height t m.2,
      spender_step c.args.o.now c.args.height m.0 m.1 c.loop-tx.tx-index c.args.txs.now t m.2 c.loop-tx.found c.spender_after-found.result _ c.loop-tx-test.true c.tx-item.is c.spender_after-found.ensures m.3,
    )

pub returns : goal.returns
returns c = λ pos start coins.
    let m = c.loop-tx.invariant pos start coins in
    let none = drop_all c.loop-tx.tx-index c.args.txs.now (let e = c.loop-tx-test.false in omega arith) in
    sym (ap (λ us. fold (taken_after c.args.o.now) c.loop-tx.found (positions_in c.args.height m.0 m.1 us m.2)) none) ∙ m.3
