use Rattle.el_headers.proofs.OnePath.{parent_on}
use Rattle.el_headers.proofs.tree.HeaderTree.parent.Goals as goal

pub returns : goal.returns
returns c = rw (← c.self.view_is) (λ hash path height p at.
    parent_on c.self.inside.table.nodes.items hash path height c.args.node.now c.parent_in.result c.self.invariant.found p at c.parent_in.ensures.some c.parent_in.ensures.none)
