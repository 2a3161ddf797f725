use Rattle.std.proofs.Common.{sym, ap, ◌∙◌, true, false}
use Rattle.std.specs.Option.{is_some}
use Rattle.el_join.proofs.Refusing.{first_known, second_known, third_known}
use Rattle.el_kept.proofs.Entries.{copied_some}
use Rattle.el_join.proofs.examining.known_of.Goals as goal

pub returns-then-is_coinbase_form-clause-first : goal.returns-then-is_coinbase_form-clause-first
returns-then-is_coinbase_form-clause-first g c = λ chain kept over stood.
    first_known chain kept c.args.tx.now (sym c.is_coinbase_form.ensures ∙ c.if-is_coinbase_form.true)

pub returns-then-is_some-clause-first : goal.returns-then-is_some-clause-first
returns-then-is_some-clause-first g c = λ chain kept over stood.
    second_known chain kept c.args.tx.now c.args.id.now c.in_ok-find_tx.field-0 c.requires.id (sym c.is_coinbase_form.ensures ∙ c.if-is_coinbase_form.false)
    (c.in_ok-find_tx.ensures.spot chain stood) (sym c.is_some.ensures ∙ c.if-is_some.true)

pub returns-then-is_some-2-clause-first : goal.returns-then-is_some-2-clause-first
returns-then-is_some-2-clause-first g c = λ chain kept over stood.
    third_known c.args.table.now chain kept c.args.tx.now c.args.id.now c.in_ok-find_tx.field-0 true over c.requires.id (sym c.is_coinbase_form.ensures ∙ c.if-is_coinbase_form.false)
    (c.in_ok-find_tx.ensures.spot chain stood) (sym c.is_some.ensures ∙ c.if-is_some.false) (ap is_some (sym c.kept_under.ensures) ∙ copied_some c.kept_under.result ∙ sym c.is_some-2.ensures ∙ c.if-is_some-2.true)

pub returns-clause-first : goal.returns-clause-first
returns-clause-first g c = λ chain kept over stood.
    third_known c.args.table.now chain kept c.args.tx.now c.args.id.now c.in_ok-find_tx.field-0 false over c.requires.id (sym c.is_coinbase_form.ensures ∙ c.if-is_coinbase_form.false)
    (c.in_ok-find_tx.ensures.spot chain stood) (sym c.is_some.ensures ∙ c.if-is_some.false) (ap is_some (sym c.kept_under.ensures) ∙ copied_some c.kept_under.result ∙ sym c.is_some-2.ensures ∙ c.if-is_some-2.false)
