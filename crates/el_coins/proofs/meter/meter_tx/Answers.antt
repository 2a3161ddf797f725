use Rattle.std.proofs.Common.{◌∙◌, [], ap, arith}
use Rattle.el_chain.specs.RowCounts.{add_scripts}
use Rattle.el_coins.specs.within.Meters.{met_by}
use Rattle.el_coins.proofs.Meters.{meter_more}
use Rattle.el_coins.proofs.meter.meter_tx.Goals as goal

pub returns : goal.returns
returns c = λ height lists coins h.
    let found = c.in_ok-found.ensures.found coins h.coins_are in
    let after = c.in_ok-found.ensures.coins height coins h.coins_are in
    meter_more c.args.meter.now _ lists coins _ (met_by coins c.args.tx.now) c.gather_in.new.scripts.keys h after
    (c.in_ok-gather_in-2.ensures ∙ ap (add_scripts c.args.meter.now.scripts.keys) (c.as_slice-2.ensures.value ∙ found))
    (c.in_ok-gather_in.ensures ∙ ap (λ k. add_scripts k c.as_slice.result.now) c.new-own.ensures.empty ∙ ap (add_scripts []) (c.as_slice.ensures.value ∙ found))
    (let total = c.saturating_add-meter.ensures in let long = c.len.ensures.len in omega arith)
