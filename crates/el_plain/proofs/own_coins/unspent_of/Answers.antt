use Rattle.std.proofs.Common.{rules, ◌≡◌, ◌∙◌, [], ap, sym, append-nil}
use Rattle.std.specs.List.{flat_map}
use Rattle.std.specs.Prelude.{option_to_list}
use Rattle.el_plain.proofs.OwnCoins.{standing_values}
use Rattle.el_plain.proofs.own_coins.unspent_of.Goals as goal

pub loop-coin-init : goal.loop-coin-init
loop-coin-init c =
    let empty : c.new-found.result.items ≡ [] = search rules in
    rw empty (ap (flat_map option_to_list) (c.into_iter-coin-iterator.ensures.into_iter_gives ∙ c.values-coin-items.ensures.rest) ∙ standing_values c.in_ok-own.own.entries ∙ c.in_ok-own.ensures.are)

pub returns : goal.returns
returns c =
    let none : c.loop-coin.coin-iterator ≡ [] = search rules in
    let all = rw none at c.loop-coin.invariant in
    sym (append-nil c.loop-coin.found.items) ∙ all
