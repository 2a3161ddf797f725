use Rattle.el_undisturbed.proofs.Standing.{all_scanned, all_before}
use Rattle.el_undisturbed.proofs.laws.found_nodes_stand.Goals as goal

pub returns-clause-shown : goal.returns-clause-shown
returns-clause-shown g c = λ before after magic nodes shows s. all_scanned g.A.Archive before after magic nodes shows s

pub returns-clause-before : goal.returns-clause-before
returns-clause-before g c = λ before after magic nodes fits s. all_before g.A.Archive before after magic nodes fits s
