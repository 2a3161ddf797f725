use Rattle.el_tables.proofs.FitLemmas.{take_back_entry_fits}
use Rattle.el_tables.proofs.edits.take_back_entry_edits_rows.Goals as goal

pub returns : goal.returns
returns c = take_back_entry_fits
