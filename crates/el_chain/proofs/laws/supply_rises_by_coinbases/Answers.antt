use Rattle.el_chain.proofs.SupplyLaws.{rises_by_outputs, does_not_rise, block_rises}
use Rattle.el_chain.proofs.laws.supply_rises_by_coinbases.Goals as goal

pub returns : goal.returns
returns c = record { outputs = rises_by_outputs; others = does_not_rise; block = block_rises }
