use Rattle.std.specs.Prelude.{◌≡◌, map, take}
use Rattle.std.specs.List.{AllByRecursion}
use Rattle.el_tx.specs.Encoding.{IsInput}
use Rattle.el_gen.specs.Generated.{spending_input}
use Rattle.el_gen.proofs.transactions.spending_inputs.Given as goal

abbrev pub invariant-loop-outpoint : goal.invariant-loop-outpoint
invariant-loop-outpoint l = record {
  made : l.inputs ≡ map spending_input (take l.outpoint-index l.from);
  lawful : AllByRecursion IsInput l.inputs;
}
