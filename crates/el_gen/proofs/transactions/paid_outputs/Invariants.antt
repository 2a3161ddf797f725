use Rattle.std.specs.Prelude.{◌≡◌, ℕ, map, take}
use Rattle.std.specs.List.{AllByRecursion}
use Rattle.el_tx.specs.Encoding.{IsOutput}
use Rattle.el_gen.specs.Generated.{paid}
use Rattle.el_gen.proofs.transactions.paid_outputs.Given as goal

abbrev pub invariant-loop-value : goal.invariant-loop-value
invariant-loop-value l = record {
  made : l.outputs ≡ map (λ (p : ℕ × ℕ). paid p.0 p.1) (take l.value-index l.to);
  lawful : AllByRecursion IsOutput l.outputs;
}
