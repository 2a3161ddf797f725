use Rattle.std.proofs.Common.{◌∙◌, sym, rules}
use Rattle.serde_json.proofs.Views.{Entry}
use Rattle.el_json.specs.Parameters.{texts_of}
use Rattle.el_json.proofs.Naming.{goes_on, stops}
use Rattle.el_json.proofs.params.names_are_among.Goals as goal

pub loop-name-preserved : goal.loop-name-preserved
loop-name-preserved c =
    let e : Entry = (c.in-Some.name.now, c.in-Some.field-0-1.now) in
    sym (goes_on (texts_of c.args.names.now) e c.next.new.self c.loop-name.name-iterator c.in-Some.ensures.steps (search rules)) ∙ c.loop-name.invariant

pub returns-then-not-is_one_of : goal.returns-then-not-is_one_of
returns-then-not-is_one_of c =
    let e : Entry = (c.in-Some.name.now, c.in-Some.field-0-1.now) in
    sym (stops (texts_of c.args.names.now) e c.next.new.self c.loop-name.name-iterator c.in-Some.ensures.steps (search rules)) ∙ c.loop-name.invariant
