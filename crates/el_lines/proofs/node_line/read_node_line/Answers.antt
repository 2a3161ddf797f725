use Rattle.el_lines.proofs.NodeLineLemmas.{only_block}
use Rattle.el_lines.proofs.node_line.read_node_line.Goals as goal

pub returns-in-None-clause-refused : goal.returns-in-None-clause-refused
returns-in-None-clause-refused c = only_block c.args.line.now c.in-Some.text.now c.in-Some.ensures c.in-None.ensures
