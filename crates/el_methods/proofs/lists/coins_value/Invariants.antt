use Rattle.std.proofs.Common.{◌≡◌, map, take}
use Rattle.el_methods.specs.Results.{coin_value}
use Rattle.el_methods.proofs.lists.coins_value.Given as goal

abbrev pub invariant-loop-coin : goal.invariant-loop-coin
invariant-loop-coin l = l.list ≡ map coin_value (take l.coin-index l.coins)
