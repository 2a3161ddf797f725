use Rattle.std.proofs.Common.{rules, ◌∙◌, map, sym}
use Rattle.el_words.specs.Words.{texts}
use Rattle.el_words.proofs.Checking.{more_given, parted, none_found, some_found, ended}
use Rattle.el_words.proofs.options.are_options.Goals.{then-not-is_among-via-then-not-is_among, then-not-is_among-via-else-not-is_among+then-not-is_value, then-not-is_among-via-else-not-is_among+else-not-is_value+then-is_some}
use Rattle.el_words.proofs.options.are_options.Goals as goal

pub returns-then-not-is_among : goal.returns-then-not-is_among
returns-then-not-is_among c = (
  λ t. absurd cc,
  λ all.
      let p = parted (map (λ o. o.now) c.args.options.now) (texts c.in-Some.more.now) c.in-Some.option.now
      c.in-Some.value.now (rw c.in-Some.ensures.pair at (c.loop-option.invariant.1 all)) in
      elim c.then-not-is_among.branch [
        | then-not-is_among-via-then-not-is_among w ↦
            absurd (let known = c.is_among.ensures.1 p.known in search rules)
        | then-not-is_among-via-else-not-is_among+then-not-is_value w ↦
            absurd (let valued = w.is_value.ensures.1 p.valued in search rules)
        | then-not-is_among-via-else-not-is_among+else-not-is_value+then-is_some w ↦
            absurd (some_found w.value_in.result (search rules)
            (w.value_in.ensures p.rest.given p.rest.words_are ∙ p.once p.rest.given p.rest.words_are))
      ],
)

pub loop-option-preserved : goal.loop-option-preserved
loop-option-preserved c = (
  λ rest. c.loop-option.invariant.0 (rw c.in-Some.ensures.pair
      (more_given (map (λ o. o.now) c.args.options.now) (texts c.in-Some.more.now) c.in-Some.option.now c.in-Some.value.now (search rules) (search rules)
      (λ given is. sym (c.value_in.ensures given is) ∙ none_found c.value_in.result (search rules)) rest)),
  λ all. (parted (map (λ o. o.now) c.args.options.now) (texts c.in-Some.more.now) c.in-Some.option.now
      c.in-Some.value.now (rw c.in-Some.ensures.pair at (c.loop-option.invariant.1 all))).rest,
)

pub returns : goal.returns
returns c = rw c.is_empty.ensures (ended (map (λ o. o.now) c.args.options.now) (texts c.args.words.now)
    c.loop-option.rest.now c.in_default.ensures.pair c.loop-option.invariant)
