use Rattle.std.proofs.Common.{ap, sym, ◌∙◌}
use Rattle.el_model.specs.Queries.{header_at}
use Rattle.el_rows.specs.Transaction.{with_edits}
use Rattle.el_schema.proofs.StandingLemmas.{holds}
use Rattle.el_tables.specs.ChainLists.{lists, listed_blocks}
use Rattle.el_tables.specs.Tables.{tables_of, in_both}
use Rattle.el_queries.proofs.Heights.{header_told}
use Rattle.el_queries.proofs.blocks.header.Goals as goal

pub returns-clause-header : goal.returns-clause-header
returns-clause-header g c chain told stand =
    let hold = (holds (with_edits {G = g.R.Rows} c.args.t.now) chain stand).1 in
    let row = c.in_ok-block_row.ensures.row (tables_of (in_both stand.0) (listed_blocks chain) (lists chain)) told hold in
    ap (header_at chain) (sym c.from.ensures) ∙ header_told chain c.from.result c.in_ok-block_row.field-0 row
