use Rattle.std.proofs.Common.{sym, ◌∙◌}
use Rattle.el_connect.proofs.CoinLemmas.{found_value, none_found}
use Rattle.el_connect.proofs.held.coin_held.Goals as goal

pub returns-in-Some-clause-value : goal.returns-in-Some-clause-value
returns-in-Some-clause-value g c counts bs l told hold some =
    let found = c.in-Ok.ensures.named counts bs l told hold some in
    found_value c.args.o.now c.args.below l c.in-Some.output c.unspent_value.result (sym c.in-Some.is ∙ found) c.unspent_value.ensures.unspent c.unspent_value.ensures.gone

pub returns-in-None-clause-value : goal.returns-in-None-clause-value
returns-in-None-clause-value g c counts bs l told hold some =
    let found = c.in-Ok.ensures.named counts bs l told hold some in
    none_found c.args.o.now c.args.below l (sym c.in-None.is ∙ found)
