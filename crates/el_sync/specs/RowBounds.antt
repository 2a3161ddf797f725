-- How many rows of the ledger a line of the node reads. Nothing is said of one that makes a move, or tells an
-- unconfirmed transaction.
use Rattle.std.specs.Prelude.{◌≤◌, ◌+◌, ℕ, List, Option, Some, ⊤}
use Rattle.el_base.specs.declared.hash.Hash32.{Hash32}
use Rattle.el_chain.specs.declared.node.Node.{Node}
use Rattle.el_chain.specs.Chains.{Chain}
use Rattle.el_chain.specs.Headers.{IsPath}
use Rattle.el_chain.specs.Moves.{max_back}
use Rattle.el_lines.specs.Lines.{LineEvent, line, too_long}
use Rattle.el_lines.specs.NodeLines.{NodeLine, tip, tx}
use Rattle.el_side.specs.Plans.{back_of, rest_of, IsMoving}
use Rattle.el_side.specs.Side.{Side, IsSaid}

-- no move is made for the path: too many blocks would be taken back, or the chain ends there
abbrev pub AsksNoMove : Chain → List Node → Type 0
AsksNoMove chain path = back_of chain path ≤ max_back → IsMoving (back_of chain path) (rest_of chain path) → ⊥

-- A tip line. `before` and `after` it so many rows had been read.
pub record ReadsTip (side : Side) (h : Hash32) (before after : ℕ) : Type 0 where
  pub no_path : ((path : List Node) → IsPath side.found h path → ⊥) → after ≤ before
  -- the header of each block that would be taken back, and one more
  pub no_move : (path : List Node) → IsPath side.found h path → AsksNoMove side.chain path
      → after ≤ before + (back_of side.chain path + 1)

-- a line that says this
abbrev pub ReadsSaid : Side → Option NodeLine → ℕ → ℕ → Type 0
ReadsSaid side (Some (tip hash)) before after = ReadsTip side (record { 0 = hash }) before after
ReadsSaid side (Some (tx bytes)) before after = ⊤
ReadsSaid side other before after = after ≤ before

-- what is met in the node's bytes
abbrev pub ReadsLine : Side → LineEvent → ℕ → ℕ → Type 0
ReadsLine side (line bytes) before after =
    (said : Option NodeLine) × IsSaid bytes said × ReadsSaid side said before after
ReadsLine side too_long before after = after ≤ before
