use Rattle.el_tables.proofs.OutEdits.{unspend_rows}
use Rattle.el_tables.proofs.edits.unspend_edits_rows.Goals as goal

pub returns : goal.returns
returns c = unspend_rows
