use Rattle.std.proofs.Common.{◌∙◌, sym}
use Rattle.el_plain.proofs.OwnCoins.{own_put, own_other}
use Rattle.el_plain.proofs.own_coins.add.Goals as goal

pub returns-in_ok-insert : goal.returns-in_ok-insert
returns-in_ok-insert c = λ coins h.
    own_put c.args.own.now c.shift_remove.new.self c.insert.new.self c.args.script_hash.now.0 coins c.args.coin h c.shift_remove.ensures.entries c.shift_remove.ensures.updates.1
    c.in_ok-insert.ensures.entries c.in_ok-insert.ensures.unique (sym c.eq.ensures ∙ c.if-eq.true)

pub returns-else-eq : goal.returns-else-eq
returns-else-eq c = λ coins h.
    own_other c.args.own.now c.shift_remove.new.self c.args.script_hash.now.0 coins c.args.coin h c.shift_remove.ensures.entries c.shift_remove.ensures.unique (sym c.eq.ensures ∙ c.if-eq.false)
