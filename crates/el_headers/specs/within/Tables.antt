-- The tables of a header tree. Its nodes are numbered from 0 in the order in which they were added; a node
-- whose height is known is attached.
use Rattle.std.specs.Prelude.{◌≡◌, ◌⊎◌, ℕ, zero, suc, ◌+◌, ◌<◌, ◌≤◌, Bool, true, false, if◌then◌else◌, List, [], ◌∷◌, ◌++◌, length, take, drop, slice_set, Option, None, Some, option_map, slice_get}
use Rattle.std.specs.Option.{option_or, is_some}
use Rattle.std.specs.Vec.{vec_capacity, vec_len}
use Rattle.indexmap.specs.IndexMap.{IndexMap, get, spare}
use Rattle.el_base.specs.declared.hash.Hash32.{Hash32}
use Rattle.el_chain.specs.declared.node.Node.{Node}
use Rattle.el_chain.specs.Headers.{same_hash, has_hash, names_none, genesis, IsFound, IsPath}
use Rattle.el_headers.specs.declared.table.Table.{Table}

-- the greatest number of a node that passes the test, where the first has that number
abbrev pub greatest_from : ℕ → (Node → Bool) → List Node → Option ℕ
greatest_from number test [] = None
greatest_from number test (n ∷ ns) =
    option_or (greatest_from (number + 1) test ns) (if test n then Some number else None)

-- the greatest number of a node that passes the test
abbrev pub greatest : (Node → Bool) → List Node → Option ℕ
greatest test nodes = greatest_from 0 test nodes

-- the node names that hash as the one before it, so it is a child of the node with the hash
abbrev pub is_child_of : Hash32 → Node → Bool
is_child_of h n = same_hash n.header.previous h

-- beside each node stands the number of the newest node before it that names the same hash
pub record AreOlder (nodes : List Node) (older : List (Option ℕ)) : Type 0 where
  pub count : length older ≡ length nodes
  pub each : (i : ℕ) (n : Node) → slice_get nodes i ≡ Some n
      → slice_get older i ≡ Some (greatest (is_child_of n.header.previous) (take i nodes))

-- how many nodes are not attached
abbrev pub open_count : List (Option ℕ) → ℕ
open_count [] = 0
open_count (None ∷ heights) = open_count heights + 1
open_count (Some height ∷ heights) = open_count heights

-- what stands there is the height of a node, and the height isn't known
abbrev pub is_open_height : Option (Option ℕ) → Bool
is_open_height None = false
is_open_height (Some None) = true
is_open_height (Some (Some height)) = false

-- the node with that number is there and not attached
abbrev pub is_unattached : List (Option ℕ) → ℕ → Bool
is_unattached heights i = is_open_height (slice_get heights i)

-- the heights after the node was attached, unless it was before
abbrev pub attached_at : List (Option ℕ) → ℕ → ℕ → List (Option ℕ)
attached_at heights i height = if is_unattached heights i then slice_set heights i (Some height) else heights

-- the stack after that: a node that is attached now has children to be looked at
abbrev pub stacked : List (Option ℕ) → ℕ → List ℕ → List ℕ
stacked heights i stack = if is_unattached heights i then stack ++ i ∷ [] else stack

-- the number stands in the list
abbrev pub Has : List ℕ → ℕ → Type 0
Has numbers j = (place : ℕ) × (slice_get numbers place ≡ Some j)

-- the node's parent is attached, at that height
pub record HasParent (nodes : List Node) (heights : List (Option ℕ)) (n : Node) (height : ℕ) : Type 0 where
  pub number : ℕ
  pub parent : Node
  pub stands : slice_get nodes number ≡ Some parent
  pub named : parent.hash ≡ n.header.previous
  pub height_is : slice_get heights number ≡ Some (Some height)

-- why a node has that height: it is the genesis, or its parent's height is one less
abbrev pub HasHeight : List Node → List (Option ℕ) → Node → ℕ → Type 0
HasHeight nodes heights n zero = genesis nodes ≡ Some n
HasHeight nodes heights n (suc height) = (names_none n ≡ false) × HasParent nodes heights n height

-- The heights that are known are right. A child of an attached node is attached too, but for the children
-- of the nodes on the stack, and the pairs of a child's number and its parent's that are left.
pub record AreHeights (nodes : List Node) (heights : List (Option ℕ)) (stack : List ℕ)
    (left : ℕ → ℕ → Type 0) : Type 0 where
  pub count : length heights ≡ length nodes
  pub sound : (i height : ℕ) (n : Node) → slice_get nodes i ≡ Some n
      → slice_get heights i ≡ Some (Some height) → HasHeight nodes heights n height
  pub later : (i : ℕ) (n : Node) → slice_get nodes i ≡ Some n → slice_get heights i ≡ Some None
      → names_none n ≡ false
  pub complete : (i j : ℕ) (n m : Node) → slice_get nodes i ≡ Some n → slice_get heights i ≡ Some None
      → slice_get nodes j ≡ Some m → m.hash ≡ n.header.previous
      → (slice_get heights j ≡ Some None) ⊎ (Has stack j ⊎ left i j)
  pub on : (j : ℕ) → Has stack j → (height : ℕ) × (slice_get heights j ≡ Some (Some height))
  pub low : (i height : ℕ) → slice_get heights i ≡ Some (Some height)
      → height + open_count heights < length heights

-- no pair of a child and its parent is left
abbrev pub NoneLeft : ℕ → ℕ → Type 0
NoneLeft i j = ⊥

-- the number is at most that one; with none, no number is
abbrev pub IsUpTo : Option ℕ → ℕ → Type 0
IsUpTo None i = ⊥
IsUpTo (Some last) i = i ≤ last

-- the children of that parent are left up to that number
abbrev pub ChildrenLeft : ℕ → Option ℕ → ℕ → ℕ → Type 0
ChildrenLeft parent last i j = (j ≡ parent) × IsUpTo last i

-- the newest child of each node, by its hash
abbrev pub AreNewest : {S : Type 0} → List Node → IndexMap Hash32 ℕ S → Type 0
AreNewest nodes children = (h : Hash32) → get same_hash children h ≡ greatest (is_child_of h) nodes

-- What holds of the tables of a header tree between calls.
pub record IsTable (t : Table) : Type 0 where
  pub found : IsFound t.nodes.items
  pub numbers : (h : Hash32) → get same_hash t.numbers h ≡ greatest (has_hash h) t.nodes.items
  pub children : AreNewest t.nodes.items t.children
  pub older : AreOlder t.nodes.items t.older.items
  pub heights : AreHeights t.nodes.items t.heights.items [] NoneLeft
  pub stack : t.stack.items ≡ []
  pub first : t.genesis ≡ option_map (λ (n : Node). n.hash) (genesis t.nodes.items)

-- two tables have the same nodes, and the same numbers and heights beside them
pub record AreSame (s t : Table) : Type 0 where
  pub nodes : s.nodes.items ≡ t.nodes.items
  pub numbers : s.numbers.entries ≡ t.numbers.entries
  pub children : s.children.entries ≡ t.children.entries
  pub older : s.older.items ≡ t.older.items
  pub heights : s.heights.items ≡ t.heights.items
  pub stack : s.stack.items ≡ t.stack.items
  pub first : s.genesis ≡ t.genesis

-- there is room for one node more, and for all nodes on the stack
pub record HasNodeRoom (t : Table) : Type 0 where
  pub nodes : vec_len t.nodes < vec_capacity t.nodes
  pub numbers : 0 < spare t.numbers
  pub children : 0 < spare t.children
  pub older : vec_len t.older < vec_capacity t.older
  pub heights : vec_len t.heights < vec_capacity t.heights
  pub stack : vec_len t.nodes < vec_capacity t.stack

-- how high the newest node stands that was not in the tables yet: the genesis at 0, another one above its
-- parent if this is attached
abbrev pub IsHeight : List Node → List (Option ℕ) → Node → Option ℕ → Type 0
IsHeight nodes heights n None = (names_none n ≡ false)
    × ((j : ℕ) (m : Node) → slice_get nodes j ≡ Some m → m.hash ≡ n.header.previous
    → slice_get heights j ≡ Some None)
IsHeight nodes heights n (Some zero) = names_none n ≡ true
IsHeight nodes heights n (Some (suc height)) = (names_none n ≡ false) × HasParent nodes heights n height

-- that height is the genesis'
abbrev pub is_lowest : Option ℕ → Bool
is_lowest None = false
is_lowest (Some zero) = true
is_lowest (Some (suc height)) = false

-- where each hash had a number or none, it has them now, and this one the new number
abbrev pub Numbers : {S : Type 0} → IndexMap Hash32 ℕ S → Hash32 → ℕ → IndexMap Hash32 ℕ S → Type 0
Numbers old hash number new = (h : Hash32)
    → get same_hash new h ≡ (if same_hash hash h then Some number else get same_hash old h)

-- The tables after one more node was put in at that height. Its children are to be looked at where it is
-- attached.
pub record Keeps (old new : Table) (n : Node) (height : Option ℕ) : Type 0 where
  pub nodes : new.nodes.items ≡ old.nodes.items ++ n ∷ []
  pub numbers : Numbers old.numbers n.hash (length old.nodes.items) new.numbers
  pub children : Numbers old.children n.header.previous (length old.nodes.items) new.children
  pub older : new.older.items ≡ old.older.items ++ get same_hash old.children n.header.previous ∷ []
  pub heights : new.heights.items ≡ old.heights.items ++ height ∷ []
  pub stack : new.stack.items ≡ (if is_some height then length old.nodes.items ∷ [] else [])
  pub room : length new.nodes.items ≤ vec_capacity new.stack
  pub first : new.genesis ≡ (if is_lowest height then Some n.hash else old.genesis)

-- heights that are known stay
abbrev pub StayKnown : List (Option ℕ) → List (Option ℕ) → Type 0
StayKnown old new = (i height : ℕ)
    → slice_get old i ≡ Some (Some height) → slice_get new i ≡ Some (Some height)

-- the second number is that of the parent of the node with the first
pub record IsParent (nodes : List Node) (heights : List (Option ℕ)) (child parent : ℕ) : Type 0 where
  pub node : Node
  pub before : Node
  pub child_is : slice_get nodes child ≡ Some node
  pub parent_is : slice_get nodes parent ≡ Some before
  pub named : before.hash ≡ node.header.previous
  pub later : names_none node ≡ false
  pub lower : (height : ℕ) → slice_get heights child ≡ Some (Some (suc height))
      → slice_get heights parent ≡ Some (Some height)

-- the node with the hash has that number, and is attached at that height
abbrev pub IsPlace : List Node → List (Option ℕ) → Hash32 → ℕ → ℕ → Type 0
IsPlace nodes heights h number height = (n : Node) × (slice_get nodes number ≡ Some n) × (n.hash ≡ h)
    × (slice_get heights number ≡ Some (Some height))

-- a path to the hash ends at that height, and these are its nodes from another height on
abbrev pub HasPathFrom : List Node → Hash32 → ℕ → ℕ → List Node → Type 0
HasPathFrom nodes h height first after = (path : List Node) × IsPath nodes h path × (length path ≡ height + 1)
    × (after ≡ drop first path)
