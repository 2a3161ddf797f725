use Rattle.std.proofs.Common.{take}
use Rattle.el_merkle.specs.Merkle.{branch_through}
use Rattle.el_levels.proofs.TreeLemmas.{Climbing}
use Rattle.el_levels.proofs.tree.branch_in.Given as goal

abbrev pub invariant-loop : goal.invariant-loop
invariant-loop l =
    Climbing l.hashes l.levels l.counter l.start l.len l.place l.partners.items (branch_through l.levels (take l.count l.hashes) l.pos)
