use Rattle.std.proofs.Common.{◌≡◌, ◌∙◌, ap, map, rules}
use Rattle.serde_json.specs.Data.{array}
use Rattle.serde_json.specs.View.{items_of}
use Rattle.serde_json.specs.Written.{has_float}
use Rattle.el_methods.specs.Results.{pool_value}
use Rattle.el_methods.proofs.Printable.{of_pool_entries}
use Rattle.el_methods.proofs.lists.pool_entries_value.Goals as goal

pub returns-clause-printable : goal.returns-clause-printable
returns-clause-printable c =
    let is : c.into_answer.result ≡ array (items_of (map pool_value c.args.entries.now)) = search rules in
    ap has_float is ∙ of_pool_entries c.args.entries.now
