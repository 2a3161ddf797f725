use Rattle.std.proofs.Common.{◌≡◌, ◌++◌}
use Rattle.std.specs.List.{flat_map}
use Rattle.std.specs.Prelude.{option_to_list}
use Rattle.el_model.specs.Queries.{unspent}
use Rattle.el_plain.proofs.own_coins.unspent_of.Given as goal

-- what was kept, and what is left
abbrev pub invariant-loop-coin : goal.invariant-loop-coin
invariant-loop-coin l = l.found.items ++ flat_map option_to_list l.coin-iterator ≡ unspent l.blocks l.script_hash.0
