use Rattle.std.proofs.Common.{◌≡◌, take}
use Rattle.el_program.specs.Opened.{all_added}
use Rattle.el_program.proofs.opening.add_all.Given as goal

-- the nodes so far
abbrev pub invariant-loop-node : goal.invariant-loop-node
invariant-loop-node l = l.tree ≡ all_added l.initial.tree (take l.node-index l.nodes)
