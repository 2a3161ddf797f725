use Rattle.el_check_chain.proofs.Adding.{one_added}
use Rattle.el_check_chain.proofs.headers.add_all.Goals as goal

pub loop-node-preserved : goal.loop-node-preserved
loop-node-preserved c = one_added c.args.tree.now c.loop-node.tree c.add.new.self c.args.nodes.now
    c.loop-node.node-index _ c.loop-node-test.true c.loop-node.invariant c.in_ok-_added.ensures.added
