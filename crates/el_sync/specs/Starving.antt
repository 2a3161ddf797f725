-- Which lines of the node take memory, once there is room for their answer. Each other one is answered.
use Rattle.std.specs.Prelude.{◌≤◌, ℕ, List, Option, Some, None, ⊤}
use Rattle.el_base.specs.declared.hash.Hash32.{Hash32}
use Rattle.el_outside.specs.declared.archive.Archive as archive
use Rattle.el_chain.specs.declared.node.Node.{Node}
use Rattle.el_chain.specs.Headers.{IsPath}
use Rattle.el_chain.specs.Moves.{max_back}
use Rattle.el_lines.specs.Lines.{LineEvent, line, too_long}
use Rattle.el_lines.specs.NodeLines.{NodeLine, block, tip, tx, dropped}
use Rattle.el_side.specs.Plans.{back_of}
use Rattle.el_side.specs.Side.{Side, IsSaid, LooksUp}

-- a path leads to the block, for which no more blocks are taken back than may be
pub record MayMove (side : Side) (h : Hash32) : Type 0 where
  pub path : List Node
  pub is_path : IsPath side.found h path
  pub few : back_of side.chain path ≤ max_back

-- What takes memory: a record that is found, a path, and what is said of an unconfirmed transaction. `files`
-- are the block files as the line leaves them.
abbrev pub SaysMuch : {A : Type 0} → archive.Ghosts A → Side → (ℕ → List ℕ) → Option NodeLine → Type 0
SaysMuch of_files side files (Some (block file at)) =
    (node : Node) × LooksUp of_files side file at (Some node) files
SaysMuch of_files side files (Some (tip hash)) = MayMove side (record { 0 = hash })
SaysMuch of_files side files (Some (tx bytes)) = ⊤
SaysMuch of_files side files (Some (dropped id)) = ⊤
SaysMuch of_files side files None = ⊥

-- what is met in the node's bytes
abbrev pub WantsMemory : {A : Type 0} → archive.Ghosts A → Side → (ℕ → List ℕ) → LineEvent → Type 0
WantsMemory of_files side files (line bytes) =
    (said : Option NodeLine) × IsSaid bytes said × SaysMuch of_files side files said
WantsMemory of_files side files too_long = ⊥
