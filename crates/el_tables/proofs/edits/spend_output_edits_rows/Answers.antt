use Rattle.el_tables.proofs.OutEdits.{take_out_rows}
use Rattle.el_tables.proofs.edits.spend_output_edits_rows.Goals as goal

pub returns : goal.returns
returns c = take_out_rows
