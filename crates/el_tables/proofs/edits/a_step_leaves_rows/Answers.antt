use Rattle.el_tables.proofs.Tables.{step_leaves_rows}
use Rattle.el_tables.proofs.edits.a_step_leaves_rows.Goals as goal

pub returns : goal.returns
returns c = step_leaves_rows
