use Rattle.std.proofs.Common.{◌≡◌, ◌∙◌, ap, rules}
use Rattle.serde_json.specs.Written.{has_float}
use Rattle.el_methods.specs.Results.{proof_value}
use Rattle.el_methods.proofs.Printable.{of_proof}
use Rattle.el_methods.proofs.headers.proof_of.Goals as goal

pub returns-clause-printable : goal.returns-clause-printable
returns-clause-printable c =
    let is : c.into_answer.result ≡ proof_value c.args.partners.now c.args.root.now c.args.header.now = search rules in
    ap has_float is ∙ of_proof c.args.partners.now c.args.root.now c.args.header.now
