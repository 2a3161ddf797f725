use Rattle.std.proofs.Common.{◌∙◌, ◌+◌, ℕ, length, ap, length-append}
use Rattle.el_words.proofs.ProofLemmas.{reading_begins, reading_more, none_begins, none_follows, not_empty}
use Rattle.el_words.proofs.proof_words.hashes_of.Goals as goal

pub loop-number-init : goal.loop-number-init
loop-number-init c = record {
  reading = reading_begins c.args.text.now c.new-hashes.result.items c.new-hashes.ensures.items;
  count = ap length c.new-hashes.ensures.items;
}

pub returns-in_default-clause-none : goal.returns-in_default-clause-none
returns-in_default-clause-none c = none_begins c.args.text.now c.loop-number.rest.now c.loop-number.hashes.items c.loop-number.invariant.reading c.in_default.ensures

pub returns-in_default-after_comma-clause-none : goal.returns-in_default-after_comma-clause-none
returns-in_default-after_comma-clause-none c =
    none_follows c.args.text.now c.loop-number.rest.now c.in-Some.after.now c.loop-number.hashes.items c.in-Some.hash c.loop-number.invariant.reading c.in-Some.ensures
    (not_empty c.in-Some.after.now c.is_empty.result c.is_empty.ensures c.if-is_empty.false) c.in_default-after_comma.ensures

pub loop-number-preserved : goal.loop-number-preserved
loop-number-preserved c = record {
  reading = reading_more c.args.text.now c.loop-number.rest.now c.in-Some.after.now c.in-Some-after_comma.more.now c.loop-number.hashes.items c.push.new.self.items c.in-Some.hash
      c.loop-number.invariant.reading c.in-Some.ensures c.in-Some-after_comma.ensures c.in_ok-push.ensures.items;
  count = ap length c.in_ok-push.ensures.items ∙ length-append c.loop-number.hashes.items _ ∙ ap (λ (n : ℕ). n + 1) c.loop-number.invariant.count;
}
