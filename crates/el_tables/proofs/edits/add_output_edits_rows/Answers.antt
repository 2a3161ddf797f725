use Rattle.el_tables.proofs.OutEdits.{add_out_rows, add_out_alone, add_out_buries}
use Rattle.el_tables.proofs.edits.add_output_edits_rows.Goals as goal

pub returns : goal.returns
returns c = record { rows = add_out_rows; alone = add_out_alone; buries = add_out_buries }
