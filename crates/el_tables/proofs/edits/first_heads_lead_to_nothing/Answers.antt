use Rattle.el_tables.proofs.TxEdits.{first_heads, other_blocks}
use Rattle.el_tables.proofs.edits.first_heads_lead_to_nothing.Goals as goal

pub returns : goal.returns
returns c = record { heads = first_heads; blocks = other_blocks }
