use Rattle.std.proofs.Common.{rules, ◌∙◌, [], arith, refl}
use Rattle.std.proofs.lemmas.List.{drop_all}
use Rattle.el_chain.specs.Coins.{coins_after_all}
use Rattle.el_plain.specs.within.Light.{HaveFewOutputs}
use Rattle.el_plain.proofs.Lightness.{good_few}
use Rattle.el_plain.proofs.OwnCoins.{all_after, all_here, own_none, coins_step}
use Rattle.el_plain.proofs.own_coins.own_coins.Goals as goal

pub loop-height-init : goal.loop-height-init
loop-height-init c = record { fit = good_few c.args.blocks.now c.requires.good; stands = ([], own_none _ c.args.script_hash.now.0 (search rules), refl) }

pub add_txs-requires : goal.add_txs-requires
add_txs-requires c =
    rw c.as_slice.ensures (all_here HaveFewOutputs c.args.blocks.now c.loop-height.height c.index-blocks-height.result c.loop-height-test.true c.index-blocks-height.is c.loop-height.invariant.fit)

pub loop-height-preserved : goal.loop-height-preserved
loop-height-preserved c =
    let m = c.loop-height.invariant.stands in
    let b = c.index-blocks-height.result in record {
      fit = all_after HaveFewOutputs c.args.blocks.now c.loop-height.height b c.loop-height-test.true c.index-blocks-height.is c.loop-height.invariant.fit;
      stands = (
        coins_after_all c.loop-height.height c.as_slice.result.now m.0,
        c.in_ok-add_txs.ensures m.0 m.1,
        m.2 ∙ coins_step c.loop-height.height c.args.blocks.now b c.as_slice.result.now m.0 c.loop-height-test.true c.index-blocks-height.is c.as_slice.ensures,
      );
    }

pub returns : goal.returns
returns c =
    let m = c.loop-height.invariant.stands in
    let none = drop_all c.loop-height.height c.args.blocks.now (let e = c.loop-height-test.false in omega arith) in
    let is = rw none at m.2 in
    rw is m.1
