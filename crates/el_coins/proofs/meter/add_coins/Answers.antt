use Rattle.std.proofs.Common.{◌∙◌, ◌+◌, ◌++◌, ◌∷◌, [], Some, cond, map, drop, sym, ap, arith}
use Rattle.indexmap.specs.IndexMap.{get}
use Rattle.el_tx.specs.Hashing.{same_outpoint}
use Rattle.el_chain.specs.RowCounts.{output_script}
use Rattle.std.proofs.lemmas.List.{drop_all}
use Rattle.el_chain.specs.Coins.{add_coin, coin_made}
use Rattle.el_coins.proofs.CoinSteps.{output_step}
use Rattle.el_coins.proofs.Meters.{scripts_made, made_step, script_same}
use Rattle.el_coins.proofs.meter.add_coins.Goals as goal

pub loop-index-preserved : goal.loop-index-preserved
loop-index-preserved c = record {
  coins = λ height coins h.
      let m = c.loop-index.invariant.coins height coins h in
      let o = c.index-outputs-index.result in
      let coin = coin_made c.args.txid height c.loop-index.index o in
      let same = script_same c.sha256-script.result o c.as_slice.result.now c.sha256-script.ensures c.as_slice.ensures in (
        add_coin coin m.0,
        scripts_made c.loop-index.coins c.insert.new.self m.0 coin m.1
            (λ p. c.in_ok-insert.ensures.updates.0 p ∙ ap (λ s. cond (same_outpoint coin.outpoint p) (Some s) (get same_outpoint c.loop-index.coins p)) same),
        m.2 ∙ output_step c.args.txid height c.loop-index.index c.args.outputs.now o m.0 c.loop-index-test.true c.index-outputs-index.is,
      );
  found =
      let o = c.index-outputs-index.result in
      let same = script_same c.sha256-script.result o c.as_slice.result.now c.sha256-script.ensures c.as_slice.ensures in
      ap (λ l. l ++ map output_script (drop (c.loop-index.index + 1) c.args.outputs.now)) (c.in_ok-push.ensures.items ∙ ap (λ s. c.loop-index.found.items ++ s ∷ []) same)
      ∙ sym (made_step c.args.outputs.now c.loop-index.index o c.loop-index.found.items c.loop-index-test.true c.index-outputs-index.is) ∙ c.loop-index.invariant.found;
}

pub returns-clause-coins : goal.returns-clause-coins
returns-clause-coins c = λ height coins h.
    let m = c.loop-index.invariant.coins height coins h in
    let none = drop_all c.loop-index.index c.args.outputs.now (let e = c.loop-index-test.false in omega arith) in
    let is = rw none at m.2 in
    rw is m.1
