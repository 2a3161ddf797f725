use Rattle.std.proofs.Common.{refl}
use Rattle.std.proofs.lemmas.Result.{err_from_is_err_and}
use Rattle.el_chain.proofs.CoinSteps.{err_passed}
use Rattle.el_kept.specs.Tables.{undropped}
use Rattle.el_kept.proofs.Lookups.{is_over}
use Rattle.el_join.proofs.Refusing.{Refused}
use Rattle.el_join.proofs.Added.{joined_is, fees_joined}
use Rattle.el_join.proofs.adding.add_to.Goals as goal

pub returns-in_err-entry-clause-refused : goal.returns-in_err-entry-clause-refused
returns-in_err-entry-clause-refused g c = λ chain kept h stood.
    err_passed c.from_residual.result (Refused c.args.limits.now chain kept c.args.bytes.now) c.in_err-entry.field-0.0
    (err_from_is_err_and c.from_residual.result c.from_residual.ensures.1)
    (c.in_err-entry.ensures.refused chain kept (is_over c.args.table.now chain kept c.requires.table h) stood)

pub returns-clause-joined : goal.returns-clause-joined
returns-clause-joined g c = λ chain kept h stood.
    joined_is c.args.limits.now c.args.table.now chain kept c.args.bytes.now c.in_ok-entry.entry (undropped c.join.new.table.kept.entries) c.in_ok-entry.entry.txid c.in_ok-touched.touched
    c.requires.table h (c.in_ok-entry.ensures.joins chain kept (is_over c.args.table.now chain kept c.requires.table h) stood) (λ unknown untaken. c.in_ok-join.ensures.joined unknown untaken) refl
    (λ s. c.in_ok-touched.ensures.each s) c.in_ok-touched.ensures.once

pub returns-clause-fees : goal.returns-clause-fees
returns-clause-fees g c = λ chain kept h stood.
    fees_joined c.args.limits.now c.args.table.now chain kept c.args.bytes.now c.in_ok-entry.entry (undropped c.join.new.table.kept.entries) c.in_ok-told.told.items
    c.requires.table h (c.in_ok-entry.ensures.joins chain kept (is_over c.args.table.now chain kept c.requires.table h) stood) (λ unknown untaken. c.in_ok-join.ensures.joined unknown untaken)
    c.in_ok-told.ensures
