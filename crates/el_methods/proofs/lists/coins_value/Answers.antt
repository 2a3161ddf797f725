use Rattle.std.proofs.Common.{◌≡◌, ◌∙◌, ap, map, take}
use Rattle.serde_json.specs.Data.{array}
use Rattle.serde_json.specs.View.{items_of}
use Rattle.serde_json.specs.Written.{has_float}
use Rattle.el_methods.specs.Results.{coin_value}
use Rattle.el_methods.proofs.Printable.{of_coins}
use Rattle.el_methods.proofs.lists.coins_value.Goals as goal

pub returns-clause-printable : goal.returns-clause-printable
returns-clause-printable c =
    let is : c.into_answer.result ≡ array (items_of (map coin_value (take c.loop-coin.coin-index c.args.coins.now))) =
    c.into_answer.ensures ∙ ap (λ l. array (items_of l)) c.loop-coin.invariant in
    ap has_float is ∙ of_coins (take c.loop-coin.coin-index c.args.coins.now)
