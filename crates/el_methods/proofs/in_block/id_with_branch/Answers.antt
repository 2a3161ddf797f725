use Rattle.std.proofs.Common.{◌≡◌, ◌∙◌, ap, rules}
use Rattle.serde_json.specs.Written.{has_float}
use Rattle.el_methods.specs.Results as defined
use Rattle.el_methods.proofs.Printable.{of_branch}
use Rattle.el_methods.proofs.in_block.id_with_branch.Goals as goal

pub returns-clause-printable : goal.returns-clause-printable
returns-clause-printable c =
    let is : c.into_answer.result ≡ defined.id_with_branch c.args.partners.now c.args.id.now = search rules in
    ap has_float is ∙ of_branch c.args.partners.now c.args.id.now
