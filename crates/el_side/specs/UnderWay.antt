-- The first move of a line of the node, and the chains that may stand where a step of it stops.
use Rattle.std.specs.Prelude.{◌≡◌, ◌≤◌, ℕ, List}
use Rattle.el_chain.specs.declared.moves.Plan.{Plan}
use Rattle.el_chain.specs.declared.node.Node.{Node}
use Rattle.el_chain.specs.Chains.{Chain}
use Rattle.el_chain.specs.Headers.{IsPath}
use Rattle.el_chain.specs.Moves.{InFlight, max_back}
use Rattle.el_lines.specs.Lines.{LineEvent, line}
use Rattle.el_lines.specs.NodeLines.{ReadsNodeLine, tip}
use Rattle.el_side.specs.Plans.{back_of, rest_of, plan_of, IsMoving}
use Rattle.el_side.specs.Side.{Side}

-- The first move of what is met in the node's bytes: of a tip line that takes back no more blocks than may
-- be, and moves something. Else no move begins.
pub record IsFirstMove (side : Side) (met : LineEvent) (p : Plan) : Type 0 where
  pub bytes : List ℕ
  pub hash : List ℕ
  pub path : List Node
  pub met_is : met ≡ line bytes
  pub reads : ReadsNodeLine bytes (tip hash)
  pub is_path : IsPath side.found (record { 0 = hash }) path
  pub few : back_of side.chain path ≤ max_back
  pub moving : IsMoving (back_of side.chain path) (rest_of side.chain path)
  pub plan_is : p ≡ plan_of (back_of side.chain path) (rest_of side.chain path)

-- the chain is the one before the step, or the target of a move that it may begin
pub data IsUnderWay (stood : Node → List ℕ → Type 0) (chain : Chain) (is_move : Plan → Type 0)
    (next : Chain) : Type 0 where
  before : next ≡ chain → IsUnderWay stood chain is_move next
  in_move : (p : Plan) → is_move p → InFlight stood chain p next
      → IsUnderWay stood chain is_move next
