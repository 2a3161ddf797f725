-- What is left of a chain and a path to be compared, from above.
use Rattle.std.specs.Prelude.{◌≡◌, ◌≤◌, ℕ, suc, List, length, drop, Option, slice_get}
use Rattle.el_chain.specs.declared.node.Node.{Node}
use Rattle.el_chain.specs.Chains.{Chain}
use Rattle.el_side.specs.Plans.{common}

-- The blocks at the height `count` and above it aren't common, and `last` is the path's node below it, if
-- there is one.
pub record IsBelow (chain : Chain) (path : List Node) (count : ℕ) (last : Option Node) : Type 0 where
  pub none_above : common (drop count chain) (drop count path) ≡ 0
  pub long : count ≤ length path
  pub node : (below : ℕ) → count ≡ suc below → last ≡ slice_get path below
