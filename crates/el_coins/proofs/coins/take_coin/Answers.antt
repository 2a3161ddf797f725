use Rattle.std.proofs.Common.{◌∙◌, ap, not, arith}
use Rattle.el_coins.proofs.CoinLists.{value_within, taken, taken_none, there_by, none_by}
use Rattle.el_coins.proofs.coins.take_coin.Goals as goal

pub returns-then-is_none-clause-there : goal.returns-then-is_none-clause-there
returns-then-is_none-clause-there c = λ coins h.
    there_by _ _ coins c.args.outpoint c.coin_at.result _ h c.coin_at.ensures (c.is_none.ensures ∙ ap not c.if-is_none.true)

pub returns-then-is_none-clause-taken : goal.returns-then-is_none-clause-taken
returns-then-is_none-clause-taken c = λ coins h.
    taken_none _ _ coins c.args.outpoint h (none_by c.coin_at.result _ c.coin_at.ensures (c.is_none.ensures ∙ ap not c.if-is_none.true))

pub set_coin-requires-clause-held : goal.set_coin-requires-clause-held
set_coin-requires-clause-held c = value_within _ _ c.requires.0 c.args.outpoint c.requires.1

pub returns-clause-there : goal.returns-clause-there
returns-clause-there c = λ coins h.
    there_by _ _ coins c.args.outpoint c.coin_at.result _ h c.coin_at.ensures (c.is_none.ensures ∙ ap not c.if-is_none.false)

pub returns-clause-taken : goal.returns-clause-taken
returns-clause-taken c = λ coins h.
    let total = c.in_ok-set_coin.ensures.sum in
    taken _ _ _ _ coins c.args.outpoint h c.in_ok-set_coin.ensures.set (omega arith)
