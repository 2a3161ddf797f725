use Rattle.std.proofs.Common.{◌∙◌, arith}
use Rattle.std.proofs.lemmas.List.{drop_all}
use Rattle.el_chain.specs.Coins.{add_coin, coin_made}
use Rattle.el_coins.proofs.CoinSteps.{output_step}
use Rattle.el_plain.proofs.Histories.{own_made}
use Rattle.el_plain.proofs.history.note_outputs.Goals as goal

pub loop-index-preserved : goal.loop-index-preserved
loop-index-preserved c = λ height coins h.
    let m = c.loop-index.invariant height coins h in
    let o = c.index-outputs-index.result in
    let coin = coin_made c.args.txid height c.loop-index.index o in (
      add_coin coin m.0,
      own_made c.loop-index.own c.note.new.own c.args.script_hash.now.0 m.0 coin c.pays.result m.1 c.in_ok-note.ensures c.pays.ensures,
      m.2 ∙ output_step c.args.txid height c.loop-index.index c.args.outputs.now o m.0 c.loop-index-test.true c.index-outputs-index.is,
    )

pub returns : goal.returns
returns c = λ height coins h.
    let m = c.loop-index.invariant height coins h in
    let none = drop_all c.loop-index.index c.args.outputs.now (let e = c.loop-index-test.false in omega arith) in
    let is = rw none at m.2 in
    rw is m.1
