use Rattle.el_tables.proofs.TxEdits.{add_tx_rows}
use Rattle.el_tables.proofs.edits.add_tx_edits_rows.Goals as goal

pub returns : goal.returns
returns c = add_tx_rows
