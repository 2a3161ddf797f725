use Rattle.std.proofs.Common.{◌≡◌, ◌∙◌, ap, rules}
use Rattle.serde_json.specs.Written.{has_float}
use Rattle.el_methods.specs.Results.{headers_proof}
use Rattle.el_methods.proofs.Printable.{of_headers}
use Rattle.el_methods.proofs.blocks.headers_proof.Goals as goal

pub returns-clause-printable : goal.returns-clause-printable
returns-clause-printable c =
    let is : c.into_answer.result ≡ headers_proof c.args.partners.now c.args.root.now c.args.count c.args.bytes.now = search rules in
    ap has_float is ∙ of_headers c.args.partners.now c.args.root.now c.args.count c.args.bytes.now
