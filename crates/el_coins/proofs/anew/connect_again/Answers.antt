use Rattle.std.proofs.Common.{[], append-nil}
use Rattle.el_chain.proofs.GoodChains.{fits_of_encoded}
use Rattle.el_coins.proofs.GoodChains.{chain_fits}
use Rattle.el_coins.proofs.CoinsAgain.{drafted_again}
use Rattle.el_coins.proofs.anew.connect_again.Goals as goal

pub connect-requires-clause-blocks_fit : goal.connect-requires-clause-blocks_fit
connect-requires-clause-blocks_fit c = chain_fits [] c.args.blocks.now c.requires.drafted.good.each

pub connect-requires-clause-fit : goal.connect-requires-clause-fit
connect-requires-clause-fit c = rw c.as_slice-txs.ensures (fits_of_encoded c.args.placed.now.block c.requires.next.encoded)

pub returns-in-Ok : goal.returns-in-Ok
returns-in-Ok c = drafted_again c.args.none.now c.args.blocks.now _ c.args.placed.now c.args.coins.now c.connect.new.changes c.args.tally.now c.connect.new.tally c.as_slice-txs.result.now
    c.requires.drafted c.requires.next (append-nil c.args.blocks.now) c.as_slice-txs.ensures c.in-Ok.ensures.none c.in-Ok.ensures.after c.in-Ok.ensures.bound c.in-Ok.ensures.counted c.in-Ok.ensures.few
