use Rattle.el_check_chain.proofs.Adding.{are_nodes}
use Rattle.el_check_chain.proofs.headers.scanned_nodes.Goals as goal

pub returns-in-Ok-clause-scanned : goal.returns-in-Ok-clause-scanned
returns-in-Ok-clause-scanned g c = λ told.
    let r = rw c.new-found.ensures.items at (c.in-Ok.ensures.records told) in rw r.2 r.1

pub returns-in-Ok-clause-nodes : goal.returns-in-Ok-clause-nodes
returns-in-Ok-clause-nodes g c = are_nodes _ _ (rw c.new-found.ensures.items at c.in-Ok.ensures.nodes)
