use Rattle.std.proofs.Common.{◌∙◌, sym}
use Rattle.el_audit.proofs.OwnCoins.{own_taken, own_absent}
use Rattle.el_audit.proofs.owned.take.Goals as goal

pub returns-in_ok-insert : goal.returns-in_ok-insert
returns-in_ok-insert c = λ is_named coins h.
    own_taken c.args.own.now c.insert.new.self is_named coins c.args.outpoint h c.in_ok-insert.ensures.entries c.in_ok-insert.ensures.unique

pub returns-else-contains_key : goal.returns-else-contains_key
returns-else-contains_key c = λ is_named coins h.
    own_absent c.args.own.now is_named coins c.args.outpoint h (sym c.contains_key.ensures ∙ c.if-contains_key.false)
