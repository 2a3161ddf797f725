use Rattle.std.proofs.Common.{◌∙◌, sym}
use Rattle.el_audit.specs.within.Lists.{is_in_set}
use Rattle.el_audit.proofs.OwnCoins.{own_put, own_other}
use Rattle.el_audit.proofs.owned.put.Goals as goal

pub returns-in_ok-insert : goal.returns-in_ok-insert
returns-in_ok-insert c = λ coins h.
    own_put c.args.own.now c.shift_remove.new.self c.insert.new.self (is_in_set c.args.names.now) coins c.args.coin h c.shift_remove.ensures.entries c.shift_remove.ensures.updates.1
    c.in_ok-insert.ensures.entries c.in_ok-insert.ensures.unique (sym c.contains.ensures ∙ c.if-contains.true)

pub returns-else-contains : goal.returns-else-contains
returns-else-contains c = λ coins h.
    own_other c.args.own.now c.shift_remove.new.self (is_in_set c.args.names.now) coins c.args.coin h c.shift_remove.ensures.entries c.shift_remove.ensures.unique
    (sym c.contains.ensures ∙ c.if-contains.false)
