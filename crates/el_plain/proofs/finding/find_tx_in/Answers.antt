use Rattle.std.proofs.Common.{[], arith}
use Rattle.el_chain.specs.Coins.{coins_after_all}
use Rattle.el_plain.specs.within.Light.{IsLight}
use Rattle.el_plain.proofs.OwnCoins.{all_after, all_here}
use Rattle.el_plain.proofs.Lightness.{good_light}
use Rattle.el_model.proofs.Findings.{find_more, find_ends, or_none}
use Rattle.el_plain.proofs.finding.find_tx_in.Goals as goal

pub loop-height-init : goal.loop-height-init
loop-height-init c = record { light = good_light c.args.blocks.now c.requires.good; found = ([], or_none _) }

pub spot_in-found-requires : goal.spot_in-found-requires
spot_in-found-requires c =
    all_here IsLight c.args.blocks.now c.loop-height.height c.index-blocks-height.result c.loop-height-test.true c.index-blocks-height.is c.loop-height.invariant.light

pub loop-height-preserved : goal.loop-height-preserved
loop-height-preserved c =
    let m = c.loop-height.invariant.found in
    let b = c.index-blocks-height.result in record {
      light = all_after IsLight c.args.blocks.now c.loop-height.height b c.loop-height-test.true c.index-blocks-height.is c.loop-height.invariant.light;
      found = (
        coins_after_all c.loop-height.height b.block.txs m.0,
        find_more c.args.id.now c.loop-height.height c.args.blocks.now b m.0 c.loop-height.found c.spot_in-found.result _ c.loop-height-test.true c.index-blocks-height.is (c.spot_in-found.ensures m.0) m.1,
      );
    }

pub returns : goal.returns
returns c =
    let m = c.loop-height.invariant.found in
    find_ends c.args.id.now c.loop-height.height c.args.blocks.now m.0 c.loop-height.found _ (let e = c.loop-height-test.false in omega arith) m.1
