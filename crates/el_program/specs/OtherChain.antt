-- Whether the block files are those of another chain than the index's.
use Rattle.std.specs.Prelude.{List, [], ◌∷◌, Bool, false, not, ◌&&◌}
use Rattle.std.specs.List.{list_any}
use Rattle.el_base.specs.declared.hash.Hash32.{Hash32}
use Rattle.el_chain.specs.declared.node.Node.{Node}
use Rattle.el_chain.specs.Headers.{names_none, same_hash}

-- the node names no block before it, and has this hash
abbrev pub is_genesis : Hash32 → Node → Bool
is_genesis h n = names_none n && same_hash n.hash h

-- The index, whose headers these are, isn't empty; some record of the block files names no block before it;
-- and none of those is the index's genesis.
abbrev pub is_other_chain : List Node → List Node → Bool
is_other_chain [] found = false
is_other_chain (first ∷ more) found =
    list_any names_none found && not (list_any (is_genesis first.hash) found)
