use Rattle.std.proofs.Common.{◌≡◌, ◌∙◌, ap, map, take}
use Rattle.serde_json.specs.Data.{array}
use Rattle.serde_json.specs.View.{items_of}
use Rattle.serde_json.specs.Written.{has_float}
use Rattle.el_methods.specs.Results.{edge_value}
use Rattle.el_methods.proofs.Printable.{of_edges}
use Rattle.el_methods.proofs.fees.edges_value.Goals as goal

pub returns-clause-printable : goal.returns-clause-printable
returns-clause-printable c =
    let is : c.into_answer.result ≡ array (items_of (map edge_value (take c.loop-row.row-index c.args.rows.now))) =
    c.into_answer.ensures ∙ ap (λ l. array (items_of l)) c.loop-row.invariant in
    ap has_float is ∙ of_edges (take c.loop-row.row-index c.args.rows.now)
