use Rattle.std.proofs.Common.{◌≡◌, true, Some}
use Rattle.std.specs.List.{flat_map}
use Rattle.std.specs.Prelude.{option_to_list}
use Rattle.el_base.specs.declared.hash.Hash32.{Hash32}
use Rattle.el_audit.specs.within.Lists.{is_in_set, list_of, grown}
use Rattle.el_audit.specs.within.OwnCoins.{standing, coins_with}
use Rattle.el_audit.proofs.owned.coins_by_script.Given as goal

-- what was kept of each, and what is left
abbrev pub invariant-loop-coin : goal.invariant-loop-coin
invariant-loop-coin l = (s : Hash32) → is_in_set l.names s ≡ true
    → grown (list_of l.lists s) (coins_with s (flat_map option_to_list l.coin-iterator)) ≡ Some (coins_with s (standing l.own.entries))
