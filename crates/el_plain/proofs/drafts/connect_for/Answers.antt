use Rattle.std.proofs.Common.{◌++◌}
use Rattle.el_chain.proofs.GoodChains.{fits_of_encoded}
use Rattle.el_plain.proofs.GoodChains.{front_fits, back_fits}
use Rattle.el_coins.proofs.DraftSteps.{drafted_connected}
use Rattle.el_plain.proofs.drafts.connect_for.Goals as goal

pub connect-requires-clause-blocks_fit : goal.connect-requires-clause-blocks_fit
connect-requires-clause-blocks_fit c = front_fits c.args.blocks.now c.args.fresh.now c.requires.drafted.good

pub connect-requires-clause-fresh_fit : goal.connect-requires-clause-fresh_fit
connect-requires-clause-fresh_fit c = back_fits c.args.blocks.now c.args.fresh.now c.requires.drafted.good

pub connect-requires-clause-fit : goal.connect-requires-clause-fit
connect-requires-clause-fit c = rw c.as_slice.ensures (fits_of_encoded c.args.block.now c.requires.encoded)

pub returns-in-Ok-clause-drafted : goal.returns-in-Ok-clause-drafted
returns-in-Ok-clause-drafted c = λ place.
    drafted_connected c.args.base.now (c.args.blocks.now ++ c.args.fresh.now) c.args.block.now place c.args.changes.now c.connect.new.changes c.args.tally.now c.connect.new.tally
    c.as_slice.result.now c.requires.drafted c.requires.encoded c.requires.names c.as_slice.ensures c.in-Ok.ensures.none c.in-Ok.ensures.after c.in-Ok.ensures.bound
    c.in-Ok.ensures.counted c.in-Ok.ensures.few
