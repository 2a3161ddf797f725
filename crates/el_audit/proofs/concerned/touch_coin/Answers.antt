use Rattle.std.proofs.Common.{ap, ◌∙◌, ◌||◌, Bool, sym}
use Rattle.std.specs.List.{list_any}
use Rattle.el_chain.specs.Headers.{same_hash}
use Rattle.el_chain.specs.History.{has_own}
use Rattle.el_chain.proofs.TouchLemmas.{any_added, same_turned, or_nothing}
use Rattle.el_audit.proofs.OwnCoins.{own_says, coin_has}
use Rattle.el_audit.proofs.concerned.touch_coin.Goals as goal

pub returns-in_ok-add : goal.returns-in_ok-add
returns-in_ok-add c = λ is_named coins h s named.
    any_added s c.in-Some.coin.script c.args.touched.now c.add.new.self c.in_ok-add.ensures.ok
    ∙ ap (λ (b : Bool). list_any (same_hash s) c.args.touched.now || b)
    (same_turned s c.in-Some.coin.script ∙ sym (own_says c.args.own.now is_named coins s c.args.outpoint.now h named ∙ ap (coin_has s.0) (sym c.coin_at.ensures ∙ c.in-Some.is)))

pub returns-in_default : goal.returns-in_default
returns-in_default c = λ is_named coins h s named.
    or_nothing (list_any (same_hash s) c.args.touched.now) (has_own s.0 coins c.args.outpoint.now)
    (own_says c.args.own.now is_named coins s c.args.outpoint.now h named ∙ ap (coin_has s.0) (sym c.coin_at.ensures ∙ c.in_default.is))
