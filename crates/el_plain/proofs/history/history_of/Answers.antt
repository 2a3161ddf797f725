use Rattle.el_chain.specs.Coins.{coins_after_all}
use Rattle.el_plain.proofs.Histories.{chain_step}
use Rattle.el_coins.proofs.Histories.{fit_after}
use Rattle.el_plain.proofs.history.history_of.Goals as goal

pub loop-height-preserved : goal.loop-height-preserved
loop-height-preserved c =
    let m = c.loop-height.invariant.stands in
    let b = c.index-blocks-height.result in
    let lt = c.loop-height-test.true in
    record {
      fit = fit_after c.args.blocks.now c.loop-height.height b lt c.index-blocks-height.is c.loop-height.invariant.fit;
      stands = (
        coins_after_all c.loop-height.height c.as_slice.result.now m.0,
        c.in_ok-add_block.ensures.own m.0 m.1,
        chain_step c.args.script_hash.now.0 c.loop-height.height c.args.blocks.now b c.as_slice.result.now m.0 c.loop-height.found.items c.add_block.new.found.items _ lt c.index-blocks-height.is c.as_slice.ensures m.2 (c.in_ok-add_block.ensures.found m.0 m.1),
      );
    }
