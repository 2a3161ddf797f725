use Rattle.std.proofs.Common.{rules, ◌≡◌, ◌∙◌, [], Some, ap, sym}
use Rattle.std.specs.List.{flat_map}
use Rattle.std.specs.Prelude.{option_to_list}
use Rattle.el_audit.specs.within.Lists.{is_in_set, list_of, grown}
use Rattle.el_audit.specs.within.OwnCoins.{coins_with}
use Rattle.el_audit.proofs.OwnCoins.{standing_values, with_of_own}
use Rattle.el_audit.proofs.Walks.{grown_none, kept_more}
use Rattle.el_audit.proofs.owned.coins_by_script.Goals as goal

pub loop-coin-init : goal.loop-coin-init
loop-coin-init c = λ s named.
    ap (λ l. grown l (coins_with s (flat_map option_to_list c.into_iter-coin-iterator.result))) (c.in_ok-lists.ensures s named)
    ∙ ap (λ l. Some (coins_with s l)) (ap (flat_map option_to_list) (c.into_iter-coin-iterator.ensures.into_iter_gives ∙ c.values-coin-items.ensures.rest) ∙ standing_values c.args.own.now.entries)

pub loop-coin-preserved : goal.loop-coin-preserved
loop-coin-preserved c = λ s named.
    kept_more s (list_of c.loop-coin.lists s) _ _ c.in-Some.coin.now c.loop-coin.coin-iterator c.next.new.self (search rules) (c.in_ok-keep.ensures s) (c.loop-coin.invariant s named)

pub returns : goal.returns
returns c = λ coins h s named.
    let none : c.loop-coin.coin-iterator ≡ [] = search rules in
    let all = rw none at (c.loop-coin.invariant s named) in
    sym (grown_none (list_of c.loop-coin.lists s)) ∙ all ∙ ap (λ l. Some (coins_with s l)) h.are ∙ ap (λ l. Some l) (with_of_own (is_in_set c.args.names.now) s coins named)
