use Rattle.std.proofs.Common.{option_map, slice_get, ap, ◌∙◌, arith}
use Rattle.el_queries.specs.within.Lookups.{spot_in}
use Rattle.el_queries.proofs.Spots.{spot_by_row}
use Rattle.el_queries.proofs.transactions.spot_of.Goals as goal

pub returns-clause-spot : goal.returns-clause-spot
returns-clause-spot g c tb told same within =
    let x = c.args.found.now in
    spot_by_row x tb.blocks c.from-height.result c.min-pos.result c.in_ok-block.block (c.in_ok-block.ensures.row tb told same) c.from-height.ensures within c.in_ok-block.ensures.fits.txs
    (omega (arith, c.min-pos.ensures, c.saturating_sub.ensures))
    ∙ ap (λ h. option_map (spot_in x) (slice_get tb.blocks h)) c.from-height.ensures
