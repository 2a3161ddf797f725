use Rattle.std.proofs.Common.{refl, ap, ◌∙◌, ◌||◌, Bool, sym, false, None, Some}
use Rattle.std.specs.List.{list_any}
use Rattle.el_chain.specs.Headers.{same_hash}
use Rattle.el_coins.specs.CoinTables.{coin_by}
use Rattle.el_coins.proofs.TouchLemmas.{coin_touched}
use Rattle.el_chain.proofs.TouchLemmas.{any_added, same_turned, or_nothing}
use Rattle.el_coins.proofs.touching.touch_coin.Goals as goal

pub returns-in_ok-add-in-Some : goal.returns-in_ok-add-in-Some
returns-in_ok-add-in-Some c = λ coins h s. coin_touched (coin_by c.args.base.now.map) c.args.base.now.supply coins c.args.outpoint.now (Some c.in-Some.coin) s _ _ h
    (sym c.coin_of.ensures ∙ c.in-Some.is)
    (any_added s c.in-Some.coin.script c.args.touched.now c.add.new.self c.in_ok-add-in-Some.ensures.ok
    ∙ ap (λ (b : Bool). list_any (same_hash s) c.args.touched.now || b) (same_turned s c.in-Some.coin.script))

pub returns-in-None : goal.returns-in-None
returns-in-None c = λ coins h s. coin_touched (coin_by c.args.base.now.map) c.args.base.now.supply coins c.args.outpoint.now None s _ _ h
    (sym c.coin_of.ensures ∙ c.in-None.is) (or_nothing (list_any (same_hash s) c.args.touched.now) false refl)
