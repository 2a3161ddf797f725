use Rattle.std.proofs.Common.{◌∙◌, ap, arith}
use Rattle.sha2.specs.Sha256.{sha256}
use Rattle.el_plain.proofs.OwnCoins.{coin_is}
use Rattle.std.proofs.lemmas.List.{drop_all}
use Rattle.el_chain.specs.Coins.{add_coin, coin_made}
use Rattle.el_coins.proofs.CoinSteps.{output_step}
use Rattle.el_plain.proofs.own_coins.add_outputs.Goals as goal

pub loop-index-preserved : goal.loop-index-preserved
loop-index-preserved c = λ coins h.
    let m = c.loop-index.invariant coins h in
    let o = c.index-outputs-index.result in
    let coin = coin_made c.args.txid c.args.height c.loop-index.index o in
    let same = coin_is c.args.txid c.sha256.result c.args.height c.loop-index.index o (c.sha256.ensures ∙ ap sha256 c.as_slice.ensures) in (
      add_coin coin m.0,
      rw same at (c.in_ok-add.ensures m.0 m.1),
      m.2 ∙ output_step c.args.txid c.args.height c.loop-index.index c.args.outputs.now o m.0 c.loop-index-test.true c.index-outputs-index.is,
    )

pub returns : goal.returns
returns c = λ coins h.
    let m = c.loop-index.invariant coins h in
    let none = drop_all c.loop-index.index c.args.outputs.now (let e = c.loop-index-test.false in omega arith) in
    let is = rw none at m.2 in
    rw is m.1
