use Rattle.std.proofs.Common.{◌≡◌, ◌++◌, ◌∷◌, [], ◌∙◌, append-nil, arith}
use Rattle.std.proofs.lemmas.Grind.{common_steps}
use Rattle.el_chain.proofs.GoodChains.{fits_of_encoded}
use Rattle.el_coins.proofs.GoodChains.{chain_fits, kept_connected}
use Rattle.el_coins.proofs.coins.add_block.Goals as goal

pub connect-requires-clause-blocks_fit : goal.connect-requires-clause-blocks_fit
connect-requires-clause-blocks_fit c = rw c.as_slice.ensures.value (chain_fits [] c.args.blocks.now.items c.requires.kept.good.each)

pub connect-requires-clause-fit : goal.connect-requires-clause-fit
connect-requires-clause-fit c = rw c.as_slice-2.ensures (fits_of_encoded c.args.placed.block c.requires.encoded)

pub returns-clause-kept : goal.returns-clause-kept
returns-clause-kept c =
    let items : c.push-pushed.new.self.items ≡ c.args.blocks.now.items ++ c.args.placed ∷ [] = grind (arith, common_steps) in
    let laid = c.in_ok-lay_over.ensures in
    let connected = c.in_ok-connect.ensures in
    rw items (kept_connected c.args.blocks.now.items c.args.placed c.args.coins.now c.connect.new.changes c.lay_over.new.base c.args.tally.now c.connect.new.tally (c.as_slice.result.now ++ []) c.as_slice-2.result.now
    c.requires.kept c.requires.encoded c.requires.after (append-nil c.as_slice.result.now ∙ c.as_slice.ensures.value) c.as_slice-2.ensures connected.none connected.after connected.bound
    connected.counted connected.few laid.laid laid.supply)
