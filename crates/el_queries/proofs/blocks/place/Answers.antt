use Rattle.std.proofs.Common.{ap, sym, ◌∙◌}
use Rattle.el_model.specs.Queries.{place_at}
use Rattle.el_rows.specs.Transaction.{with_edits}
use Rattle.el_schema.proofs.StandingLemmas.{holds}
use Rattle.el_tables.specs.ChainLists.{lists, listed_blocks}
use Rattle.el_tables.specs.Tables.{tables_of, in_both}
use Rattle.el_queries.proofs.Heights.{place_told}
use Rattle.el_queries.proofs.blocks.place.Goals as goal

pub returns-clause-place : goal.returns-clause-place
returns-clause-place g c chain told stand =
    let hold = (holds (with_edits {G = g.R.Rows} c.args.t.now) chain stand).1 in
    let row = c.in_ok-block_row.ensures.row (tables_of (in_both stand.0) (listed_blocks chain) (lists chain)) told hold in
    ap (place_at chain) (sym c.from.ensures) ∙ place_told chain c.from.result c.in_ok-block_row.field-0 row
