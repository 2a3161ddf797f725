use Rattle.el_rows.specs.Transaction.{with_edits}
use Rattle.el_schema.proofs.StandingLemmas.{holds}
use Rattle.el_queries.proofs.Outpoints.{output_in}
use Rattle.el_queries.proofs.outputs.newest_output.Goals as goal

pub returns-clause-newest : goal.returns-clause-newest
returns-clause-newest g c chain told stand =
    let shown = with_edits {G = g.R.Rows} c.args.t.now in
    output_in stand.0 chain shown c.args.o.now c.count-count.result c.named_output.result stand.1.some (holds shown chain stand).1 c.count-count.ensures.count
    (λ counts bs l hold some. c.named_output.ensures.named counts bs l told hold some)
