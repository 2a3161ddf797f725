use Rattle.std.proofs.Common.{sym, ◌∙◌}
use Rattle.el_chain.proofs.TouchLemmas.{any_added}
use Rattle.el_sift.proofs.Known.{asked_yes, asked_no}
use Rattle.el_sift.proofs.confirming.ask.Goals as goal

pub returns-then-not-is_some-clause-asked : goal.returns-then-not-is_some-clause-asked
returns-then-not-is_some-clause-asked g c = λ chain x stood.
    asked_no chain x c.args.id.now c.in_ok-find_tx.field-0 c.args.confirmed.now (c.in_ok-find_tx.ensures.spot chain stood) (sym c.is_some.ensures ∙ c.if-not-is_some.true)

pub returns-clause-asked : goal.returns-clause-asked
returns-clause-asked g c = λ chain x stood.
    asked_yes chain x c.args.id.now c.in_ok-find_tx.field-0 c.args.confirmed.now c.add.new.self (c.in_ok-find_tx.ensures.spot chain stood) (sym c.is_some.ensures ∙ c.if-not-is_some.false)
    (any_added x c.args.id.now c.args.confirmed.now c.add.new.self c.in_ok-add.ensures.ok)
