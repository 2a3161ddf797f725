use Rattle.std.proofs.Common.{◌∙◌, refl, length, ap}
use Rattle.el_coins.specs.declared.meter.Meter.{Meter}
use Rattle.el_coins.proofs.Meters.{meter_begins, all_met}
use Rattle.el_coins.proofs.meter.count_met.Goals as goal

pub returns-clause-scripts : goal.returns-clause-scripts
returns-clause-scripts c =
    let start : Meter = record { coins = c.new.result; scripts = c.new-2.result; entries = 0 } in
    let h = all_met start c.meter_blocks.new.meter c.meter_blocks-2.new.meter c.meter_txs.new.meter c.args.blocks.now c.args.fresh.now c.args.txs.now
    (meter_begins start c.new.ensures.empty c.new-2.ensures.empty refl) c.in_ok-meter_blocks.ensures c.in_ok-meter_blocks-2.ensures c.in_ok-meter_txs.ensures in
    c.len.ensures.len ∙ ap length h.scripts

pub returns-clause-entries : goal.returns-clause-entries
returns-clause-entries c =
    let start : Meter = record { coins = c.new.result; scripts = c.new-2.result; entries = 0 } in
    let h = all_met start c.meter_blocks.new.meter c.meter_blocks-2.new.meter c.meter_txs.new.meter c.args.blocks.now c.args.fresh.now c.args.txs.now
    (meter_begins start c.new.ensures.empty c.new-2.ensures.empty refl) c.in_ok-meter_blocks.ensures c.in_ok-meter_blocks-2.ensures c.in_ok-meter_txs.ensures in
    h.entries
