use Rattle.el_tables.proofs.OutEdits.{take_back_out_rows, last_less_rows, unbury_rows}
use Rattle.el_tables.proofs.edits.take_back_output_edits_rows.Goals as goal

pub returns : goal.returns
returns c = record { rows = take_back_out_rows; left = last_less_rows; unburied = unbury_rows }
