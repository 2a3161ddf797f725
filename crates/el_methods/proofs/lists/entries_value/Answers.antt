use Rattle.std.proofs.Common.{◌≡◌, ◌∙◌, ap, rules}
use Rattle.serde_json.specs.Data.{array}
use Rattle.serde_json.specs.View.{items_of}
use Rattle.serde_json.specs.Written.{has_float}
use Rattle.el_methods.specs.Results.{both_values}
use Rattle.el_methods.proofs.Printable.{of_both}
use Rattle.el_methods.proofs.lists.entries_value.Goals as goal

pub returns-clause-printable : goal.returns-clause-printable
returns-clause-printable c =
    let is : c.into_answer.result ≡ array (items_of (both_values c.args.confirmed.now c.args.unconfirmed.now)) =
    search rules in
    ap has_float is ∙ of_both c.args.confirmed.now c.args.unconfirmed.now
