-- How a list of nodes is appended to.
use Rattle.std.specs.Prelude.{◌≡◌, List, ◌++◌}
use Rattle.std.specs.List.{AllByRecursion}
use Rattle.el_chain.specs.declared.node.Node.{Node}

-- what was there is kept, and what was appended has this property, each for itself
pub record AppendsOnly (P : Node → Type 0) (old new : List Node) : Type 0 where
  pub more : List Node
  pub appended : new ≡ old ++ more
  pub each : AllByRecursion P more
