use Rattle.std.proofs.Common.{◌∙◌, arith}
use Rattle.el_model.proofs.LedgerMoves.{asked_on}
use Rattle.el_sift.proofs.Blocks.{next_height, last_height}
use Rattle.el_sift.proofs.confirming.txids_from.Goals as goal

pub loop-height-preserved : goal.loop-height-preserved
loop-height-preserved g c = record {
  quiet = asked_on g.G.Ledger c.args.ledger.now c.loop-height.ledger c.block_txids.new.self c.loop-height.invariant.quiet c.in_ok-ids.ensures.quiet;
  still = c.in_ok-ids.ensures.cause.uncounted ∙ c.loop-height.invariant.still;
  found = λ chain x stood.
      next_height chain c.loop-height.height x c.loop-height.found c.add_all.new.found c.in_ok-ids.ids.items _
      (c.in_ok-ids.ensures.txids chain (c.loop-height.invariant.quiet.stays.still_stands chain stood)) (rw c.as_slice.ensures.value at (c.in_ok-add_all.ensures x)) (c.loop-height.invariant.found chain x stood);
}

pub returns-clause-found : goal.returns-clause-found
returns-clause-found g c = λ chain x stood.
    last_height chain c.args.same c.loop-height.height c.count_of-count.result _ x c.loop-height.found c.count_of-count.ensures.blocks (g.met.G.Ledger.height_is c.args.ledger.now chain stood)
    (let t = c.loop-height-test.false in omega arith) (c.loop-height.invariant.found chain x stood)
