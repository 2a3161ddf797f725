use Rattle.el_tables.proofs.TxEdits.{take_back_tx_rows}
use Rattle.el_tables.proofs.edits.take_back_tx_edits_rows.Goals as goal

pub returns : goal.returns
returns c = take_back_tx_rows
