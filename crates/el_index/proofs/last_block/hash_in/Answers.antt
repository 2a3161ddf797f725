use Rattle.el_rows.specs.Transaction.{with_edits}
use Rattle.el_index.proofs.IndexRows.{same_rows}
use Rattle.el_index.proofs.last_block.hash_in.Goals as goal

pub returns-clause-last : goal.returns-clause-last
returns-clause-last g c = λ heads chain told stand. c.in_ok-hash.ensures.last heads chain told
    (same_rows heads _ (with_edits {G = g.R.Rows} c.new-txn.result) chain stand (c.new-txn.ensures.tables told))
