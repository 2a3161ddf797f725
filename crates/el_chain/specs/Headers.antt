-- Headers that were found: nodes in the order in which they were added, and the path that leads from the
-- genesis to one of them.
use Rattle.std.specs.Prelude.{◌≡◌, ◌≢◌, ◌&&◌, ◌||◌, if◌then◌else◌, Bool, List, [], ◌∷◌, ◌++◌, map, Option, Some, find, true, ⊤, Contains}
use Rattle.std.specs.List.{AllByRecursion, list_any}
use Rattle.std.specs.Option.{is_some}
use Rattle.std.specs.Str.{bytes_eq}
use Rattle.el_base.specs.declared.hash.Hash32.{Hash32}
use Rattle.el_chain.specs.declared.node.Node.{Node}
use Rattle.el_block.specs.Blocks.{AllDiffer}
use Rattle.el_chain.specs.Chains.{zero_hash}
use Rattle.el_chain.specs.Records.{IsNode}

-- two hashes are one
abbrev pub same_hash : Hash32 → Hash32 → Bool
same_hash a b = bytes_eq a.0 b.0

-- the node has this hash
abbrev pub has_hash : Hash32 → Node → Bool
has_hash h n = same_hash n.hash h

-- a node with this hash was found
abbrev pub is_known : List Node → Hash32 → Bool
is_known found h = list_any (has_hash h) found

-- the node names no block before it: its previous hash is zero
abbrev pub names_none : Node → Bool
names_none n = same_hash n.header.previous zero_hash

-- the genesis: the first node that names no block before it; none before one was found
abbrev pub genesis : List Node → Option Node
genesis found = find names_none found

-- the node would be a second genesis: it names no block before it, and there is a genesis
abbrev pub is_second : List Node → Node → Bool
is_second found n = names_none n && is_some (genesis found)

-- the found nodes after one more was added: it stands last, unless its hash was known or it is a second
-- genesis, which changes nothing
abbrev pub added : List Node → Node → List Node
added found n = if is_known found n.hash || is_second found n then found else found ++ n ∷ []

-- What holds of nodes that were added one after another: each has the hash of its header, no hash stands
-- twice, and none but the genesis names no block before it.
pub record IsFound (found : List Node) : Type 0 where
  pub nodes : AllByRecursion IsNode found
  pub differ : AllDiffer (map (λ (n : Node). n.hash) found)
  pub only : AllByRecursion (λ (n : Node). names_none n ≡ true → genesis found ≡ Some n) found

-- each node names the one before it in its header, and the first of them the given hash
abbrev pub AreLinked : Hash32 → List Node → Type 0
AreLinked before [] = ⊤
AreLinked before (n ∷ ns) = (n.header.previous ≡ before) × AreLinked n.hash ns

-- the last of a node and those that follow it
abbrev pub last_node : Node → List Node → Node
last_node n [] = n
last_node n (m ∷ ms) = last_node m ms

-- A path to a hash, over found nodes: it begins with the genesis, which stands nowhere else in it, each
-- next node names the one before, and the last one has the hash.
pub record IsPath (found : List Node) (h : Hash32) (path : List Node) : Type 0 where
  pub first : Node
  pub rest : List Node
  pub whole : path ≡ first ∷ rest
  pub begins : genesis found ≡ Some first
  pub once : AllByRecursion (λ (n : Node). n ≢ first) rest
  pub members : AllByRecursion (Contains found) rest
  pub linked : AreLinked first.hash rest
  pub ends : (last_node first rest).hash ≡ h
