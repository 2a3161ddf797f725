use Rattle.std.proofs.Common.{◌≡◌, List, drop}
use Rattle.std.specs.List.{AllByRecursion}
use Rattle.std.specs.Option.{option_or}
use Rattle.std.specs.Prelude.{option_and_then}
use Rattle.el_chain.specs.declared.coin.Coin.{Coin}
use Rattle.el_chain.specs.History.{positions_from}
use Rattle.el_model.specs.Queries.{newest, find_tx}
use Rattle.el_plain.specs.within.Light.{IsLight}
use Rattle.el_model.proofs.Findings.{spot_at}
use Rattle.el_plain.proofs.finding.find_tx_in.Given as goal

-- what the blocks that are left add to what was found
abbrev pub invariant-loop-height : goal.invariant-loop-height
invariant-loop-height l = record {
  light : AllByRecursion IsLight (drop l.height l.blocks);
  found : (mid : List Coin) × (option_or (option_and_then (spot_at l.blocks) (newest l.id (positions_from l.height (drop l.height l.blocks) mid))) l.found ≡ find_tx l.blocks l.id);
}
