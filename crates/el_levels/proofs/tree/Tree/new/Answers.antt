use Rattle.std.proofs.Common.{ℕ, List, ap}
use Rattle.el_base.specs.declared.hash.Hash32.{Hash32}
use Rattle.el_levels.specs.Trees.{Grown}
use Rattle.el_levels.proofs.TreeLemmas.{new_front, new_rows}
use Rattle.el_levels.proofs.tree.Tree.new.Goals as goal

abbrev grown : List Hash32 → ℕ → Grown
grown list levels = record { leaves = list; levels = levels }

pub invariant_of-result : goal.invariant_of-result
invariant_of-result c =
    new_rows c.in_ok-hashes.hashes.items c.args.list.now c.args.levels c.requires.some c.requires.reach c.in_ok-hashes.ensures

pub returns : goal.returns
returns c =
    ap (λ (list : List Hash32). grown list c.args.levels)
    (new_front c.in_ok-hashes.hashes.items c.args.list.now c.args.levels c.in_ok-hashes.ensures)
