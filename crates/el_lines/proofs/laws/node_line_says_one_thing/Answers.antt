use Rattle.el_lines.proofs.NodeLineLemmas.{says_one}
use Rattle.el_lines.proofs.laws.node_line_says_one_thing.Goals as goal

pub returns : goal.returns
returns c = says_one
