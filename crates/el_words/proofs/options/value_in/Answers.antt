use Rattle.std.proofs.Common.{rules}
use Rattle.el_words.specs.Words.{texts}
use Rattle.el_words.proofs.Checking.{looked_found, looked_next, looked_none}
use Rattle.el_words.proofs.options.value_in.Goals as goal

pub returns-then-eq : goal.returns-then-eq
returns-then-eq c = looked_found (texts c.args.words.now) (texts c.loop-name.rest.now) c.args.option.now
    c.in-Some.name.now c.in-Some.value.now (texts c.in-Some.more.now) c.loop-name.invariant
    c.in-Some.ensures.pair (search rules)

pub loop-name-preserved : goal.loop-name-preserved
loop-name-preserved c = looked_next (texts c.args.words.now) (texts c.loop-name.rest.now) c.args.option.now
    c.in-Some.name.now c.in-Some.value.now (texts c.in-Some.more.now) c.loop-name.invariant
    c.in-Some.ensures.pair (search rules)

pub returns : goal.returns
returns c = looked_none (texts c.args.words.now) (texts c.loop-name.rest.now) c.args.option.now
    c.loop-name.invariant c.in_default.ensures.pair
