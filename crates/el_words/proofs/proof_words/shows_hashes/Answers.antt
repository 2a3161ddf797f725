use Rattle.std.proofs.Common.{◌∙◌, ◌++◌, ◌∷◌, [], ◌+◌, ℕ, length, ap, refl, arith, length-append}
use Rattle.std.proofs.lemmas.List.{nil_from_length}
use Rattle.el_words.proofs.ProofLemmas.{reading_begins, reading_more, reading_ends, none_begins, none_follows, too_many, not_empty, is_empty_list}
use Rattle.el_words.proofs.proof_words.shows_hashes.Goals as goal

pub loop-number-init : goal.loop-number-init
loop-number-init c = ([], reading_begins c.args.text.now [] refl, refl)

pub returns-in_default-clause-none : goal.returns-in_default-clause-none
returns-in_default-clause-none c = λ is.
    let i = c.loop-number.invariant in
    none_begins c.args.text.now c.loop-number.rest.now i.0 i.1 c.in_default.ensures

pub returns-then-is_empty-clause-shown : goal.returns-then-is_empty-clause-shown
returns-then-is_empty-clause-shown c = λ is.
    let i = c.loop-number.invariant in (
      i.0 ++ c.in-Some.field-0-0 ∷ [],
      reading_ends c.args.text.now c.loop-number.rest.now c.in-Some.after.now i.0 _ _ _ i.1 c.in-Some.ensures (is_empty_list c.in-Some.after.now c.is_empty.result c.is_empty.ensures c.if-is_empty.true) refl
          i.2 c.loop-number-test.true,
    )

pub returns-in_default-after_comma-clause-none : goal.returns-in_default-after_comma-clause-none
returns-in_default-after_comma-clause-none c = λ is.
    let i = c.loop-number.invariant in
    none_follows c.args.text.now c.loop-number.rest.now c.in-Some.after.now i.0 _ i.1 c.in-Some.ensures
    (not_empty c.in-Some.after.now c.is_empty.result c.is_empty.ensures c.if-is_empty.false) c.in_default-after_comma.ensures

pub loop-number-preserved : goal.loop-number-preserved
loop-number-preserved c =
    let i = c.loop-number.invariant in (
      i.0 ++ c.in-Some.field-0-0 ∷ [],
      reading_more c.args.text.now c.loop-number.rest.now c.in-Some.after.now c.in-Some-after_comma.more.now i.0 _ _ i.1 c.in-Some.ensures c.in-Some-after_comma.ensures refl,
      length-append i.0 _ ∙ ap (λ (n : ℕ). n + 1) i.2,
    )

pub returns-clause-none : goal.returns-clause-none
returns-clause-none c = λ is.
    let i = c.loop-number.invariant in
    too_many c.args.text.now c.loop-number.rest.now i.0 i.1 (let e = i.2 in let t = c.loop-number-test.false in omega arith)
