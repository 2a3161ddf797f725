-- Where the tip lines of a node lead its side of the world, with all their moves. No call of the block files
-- fails meanwhile.
use Rattle.std.specs.Prelude.{◌≡◌, ◌≢◌, ℕ, ◌+◌, List, [], ◌++◌, codes, Some}
use Rattle.el_base.specs.Shown.{shown}
use Rattle.el_base.specs.declared.hash.Hash32.{Hash32}
use Rattle.el_side.specs.Deeds.{Deed, archive, failures}
use Rattle.el_outside.specs.declared.archive.Archive as block_files
use Rattle.el_lines.specs.Lines.{line}
use Rattle.el_lines.specs.declared.node_answer.NodeAnswer.{NodeAnswer}
use Rattle.el_lines.specs.declared.node_answer.NodeAnswer.TheVariants as say
use Rattle.el_model.specs.Queries.{tip_of}
use Rattle.el_side.specs.Side.{Side, OrdersLine, Moving}

-- the line by which a node names its tip, without its byte 10
abbrev pub tip_line : Hash32 → List ℕ
tip_line h = codes "tip " ++ shown h.0

-- how many moves an answer tells: one where it tells where the chain now ends
abbrev pub moves_told : NodeAnswer → ℕ
moves_told (say.At tip height) = 1
moves_told other = 0

-- Moves of a tip line, one after the other, of which so many were made. A move that is refused leaves none
-- to be made.
pub data MovesOn {A : Type 0} (of_files : block_files.Ghosts A) (first : Side) : ℕ → Side → Type 0 where
  none : MovesOn of_files first 0 first
  more : (n : ℕ) (side next : Side) (answer : NodeAnswer) (losses : List Deed)
      → MovesOn of_files first n side → side.ahead ≢ []
      → Moving of_files side 0 side.ahead answer losses next → failures archive losses ≡ 0
      → MovesOn of_files first (n + moves_told answer) next

-- A tip line with all its moves, of which so many were made. Where the chain ends in the tip already, nothing
-- is to be done.
pub data LeadsTo {A : Type 0} (of_files : block_files.Ghosts A) (side : Side) (tip : Hash32) (n : ℕ)
    (last : Side) : Type 0 where
  there : tip_of side.chain ≡ Some tip → n ≡ 0 → last ≡ side → LeadsTo of_files side tip n last
  led : tip_of side.chain ≢ Some tip → (answer : NodeAnswer) (losses : List Deed) (first : Side)
      → OrdersLine of_files side (line (tip_line tip)) answer losses first → failures archive losses ≡ 0
      → (later : ℕ) → MovesOn of_files first later last → last.ahead ≡ []
      → n ≡ moves_told answer + later → LeadsTo of_files side tip n last
