-- What a header tree answers: what became of a node that was added, and why there is no path.
use Rattle.std.specs.Prelude.{◌≡◌, ℕ, ◌+◌, true, false, List, length, slice_get, Some}
use Rattle.el_base.specs.declared.hash.Hash32.{Hash32}
use Rattle.el_chain.specs.declared.node.Node.{Node}
use Rattle.el_chain.specs.Headers.{is_known, is_second, added, IsPath}
use Rattle.el_headers.specs.declared.answer.Added.{Added}
use Rattle.el_headers.specs.declared.answer.Added.TheVariants.{Attached, Waiting, Known, SecondGenesis}
use Rattle.el_headers.specs.declared.answer.PathFault.{PathFault}
use Rattle.el_headers.specs.declared.answer.PathFault.TheVariants.{Unknown, Unconnected, Memory}

-- the node is one more among the found ones: its hash was not known, and it is no second genesis
abbrev pub IsNew : List Node → Node → Type 0
IsNew found n = (is_known found n.hash ≡ false) × (is_second found n ≡ false)

-- What the answer says of the nodes that were found before and the node that was added. A path to it is
-- looked for over the nodes with it.
abbrev pub Tells : List Node → Node → Added → Type 0
Tells found n (Attached height) =
    IsNew found n × ((path : List Node) × IsPath (added found n) n.hash path × (length path ≡ height + 1))
Tells found n Waiting = IsNew found n × ((path : List Node) → IsPath (added found n) n.hash path → ⊥)
Tells found n Known = is_known found n.hash ≡ true
Tells found n SecondGenesis = (is_known found n.hash ≡ false) × (is_second found n ≡ true)

-- Why no path to the hash is given. Where memory runs out, there is one.
abbrev pub HasNoPath : List Node → Hash32 → PathFault → Type 0
HasNoPath found h Unknown = is_known found h ≡ false
HasNoPath found h Unconnected = (is_known found h ≡ true) × ((path : List Node) → IsPath found h path → ⊥)
HasNoPath found h Memory = (path : List Node) × IsPath found h path

-- the path ends with that node, before which so many stand
abbrev pub IsEndOf : List Node → Node → ℕ → Type 0
IsEndOf path n height = (slice_get path height ≡ Some n) × (length path ≡ height + 1)
