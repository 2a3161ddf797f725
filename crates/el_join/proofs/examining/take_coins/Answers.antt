use Rattle.std.proofs.Common.{inr, None, Some}
use Rattle.el_join.proofs.Refusing.{coins_are}
use Rattle.el_join.proofs.examining.take_coins.Goals as goal

pub returns-in-Some-clause-first : goal.returns-in-Some-clause-first
returns-in-Some-clause-first g c = λ chain kept over stood.
    inr (inr (coins_are c.args.table.now chain kept c.args.tx.now c.args.id c.as_slice-inputs.result.now c.in_ok-refusal.field-0 (Some c.in-Some.refusal) over c.requires.id c.as_slice-inputs.ensures
    (c.in_ok-found.ensures.all chain kept over stood) c.in_ok-refusal.ensures.first c.in-Some.is))

pub returns-in-None-clause-none : goal.returns-in-None-clause-none
returns-in-None-clause-none g c = λ chain kept over stood.
    coins_are c.args.table.now chain kept c.args.tx.now c.args.id c.as_slice-inputs.result.now c.in_ok-refusal.field-0 None over c.requires.id c.as_slice-inputs.ensures
    (c.in_ok-found.ensures.all chain kept over stood) c.in_ok-refusal.ensures.first c.in-None.is
