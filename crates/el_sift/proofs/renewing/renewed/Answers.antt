use Rattle.std.proofs.Common.{◌≡◌, ◌∙◌, false}
use Rattle.std.proofs.lemmas.Bool.{lt-ltb, le-ltb}
use Rattle.el_sift.specs.within.Renewal.{all_take}
use Rattle.el_sift.proofs.Renewed.{if_none, when_seen, when_confirmed, when_missing, when_short, when_stays}
use Rattle.el_sift.proofs.renewing.renewed.Goals as goal

pub returns-then-has-clause-goes : goal.returns-then-has-clause-goes
returns-then-has-clause-goes g c = λ before chain all kept t e over unspent told stood.
    when_confirmed before chain all kept c.args.gone.now t c.args.entry.now e c.has.result (c.has.ensures ∙ told) c.if-has.true

pub returns-in_default-clause-goes : goal.returns-in_default-clause-goes
returns-in_default-clause-goes g c = λ before chain all kept t e over unspent told stood.
    let seen = when_seen before chain all kept c.args.gone.now t c.args.entry.now e c.args.table.now c.may_take_kept-any.result c.as_slice-inputs.result.now over unspent c.may_take_kept-any.ensures
    c.as_slice-inputs.ensures in
    when_missing before chain all kept c.args.gone.now t c.args.entry.now e c.as_slice-inputs.result.now c.as_slice-inputs.ensures
    (if_none c.in_ok-taken.field-0 (all_take chain kept c.as_slice-inputs.result.now ≡ false) c.in_default.is
    (c.in_ok-taken.ensures.missing chain kept seen stood))

pub returns-then-taken_by-held_in-clause-goes : goal.returns-then-taken_by-held_in-clause-goes
returns-then-taken_by-held_in-clause-goes g c = λ before chain all kept t e over unspent told stood.
    let seen = when_seen before chain all kept c.args.gone.now t c.args.entry.now e c.args.table.now c.may_take_kept-any.result c.as_slice-inputs.result.now over unspent c.may_take_kept-any.ensures
    c.as_slice-inputs.ensures in
    let found = rw c.in-Some.is at (c.in_ok-taken.ensures.found chain kept seen stood) in
    when_short before chain all kept c.args.gone.now t c.args.entry.now e c.as_slice-inputs.result.now c.in-Some.taken.sources.items c.as_slice.result.now c.as_slice-2.result.now c.taken_by.result c.held_in.result
    c.as_slice-inputs.ensures found.0 c.as_slice.ensures.value c.as_slice-2.ensures c.taken_by.ensures c.held_in.ensures (lt-ltb c.taken_by.result c.held_in.result c.if-taken_by-held_in.true)

pub returns-clause-stays : goal.returns-clause-stays
returns-clause-stays g c = λ before chain all kept t e over unspent told stood.
    let seen = when_seen before chain all kept c.args.gone.now t c.args.entry.now e c.args.table.now c.may_take_kept-any.result c.as_slice-inputs.result.now over unspent c.may_take_kept-any.ensures
    c.as_slice-inputs.ensures in
    let found = rw c.in-Some.is at (c.in_ok-taken.ensures.found chain kept seen stood) in
    let flags = rw c.in-Some.is at (c.in_ok-taken.ensures.flag chain kept seen stood) in
    when_stays before chain all kept c.args.gone.now t c.args.entry.now e c.has.result c.as_slice-inputs.result.now c.in-Some.taken.sources.items c.as_slice.result.now c.as_slice-2.result.now
    c.taken_by.result c.held_in.result c.in-Some.taken.flag (c.has.ensures ∙ told) c.if-has.false c.as_slice-inputs.ensures
    found.1 found.0 flags c.as_slice.ensures.value c.as_slice-2.ensures c.taken_by.ensures c.held_in.ensures (le-ltb c.taken_by.result c.held_in.result c.if-taken_by-held_in.false)
