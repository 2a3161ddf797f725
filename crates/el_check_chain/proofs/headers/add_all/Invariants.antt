use Rattle.std.proofs.Common.{◌≡◌, take}
use Rattle.std.specs.Prelude.{fold}
use Rattle.el_chain.specs.Headers.{added}
use Rattle.el_check_chain.proofs.headers.add_all.Given as goal

-- the nodes so far
abbrev pub invariant-loop-node : goal.invariant-loop-node
invariant-loop-node l = l.tree ≡ fold added l.initial.tree (take l.node-index l.nodes)
