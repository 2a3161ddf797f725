use Rattle.el_lines.proofs.Cuts.{pieces}
use Rattle.el_lines.proofs.laws.pieces_do_not_matter.Goals as goal

pub returns : goal.returns
returns c = pieces
