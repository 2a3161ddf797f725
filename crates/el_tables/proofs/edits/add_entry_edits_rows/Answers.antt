use Rattle.el_tables.proofs.ScriptEdits.{touch_known_rows, touch_again, last_entry_is}
use Rattle.el_tables.proofs.FitLemmas.{touch_new_fits, script_found}
use Rattle.el_tables.proofs.edits.add_entry_edits_rows.Goals as goal

pub returns : goal.returns
returns c = record { new = touch_new_fits; known = touch_known_rows; again = touch_again; number = script_found; by_last = last_entry_is }
