use Rattle.std.proofs.Common.{◌≡◌, ◌∙◌, ap, rules}
use Rattle.serde_json.specs.Written.{has_float}
use Rattle.el_methods.specs.Results as defined
use Rattle.el_methods.proofs.Printable.{of_place}
use Rattle.el_methods.proofs.in_block.place_value.Goals as goal

pub returns-clause-printable : goal.returns-clause-printable
returns-clause-printable c =
    let is : c.into_answer.result ≡ defined.place_value c.args.partners.now c.args.height c.args.pos = search rules in
    ap has_float is ∙ of_place c.args.partners.now c.args.height c.args.pos
