-- The chain that the node was told last.
use Rattle.std.specs.Prelude.{◌≡◌, ◌≢◌, ℕ, List, ◌∷◌, ◌++◌, Some}
use Rattle.std.specs.List.{AllByRecursion}
use Rattle.el_base.specs.declared.hash.Hash32.{Hash32}
use Rattle.el_outside.specs.Trace.{Message}
use Rattle.el_chain.specs.Chains.{Chain}
use Rattle.el_model.specs.Queries.{tip_of, height_of}
use Rattle.el_lines.specs.NodeAnswers.{text_of}
use Rattle.el_lines.specs.declared.node_answer.NodeAnswer.TheVariants as say

-- the `at` line to the node: the chain ends in the block with this hash, of this height
abbrev pub at_line : Hash32 → ℕ → Message
at_line h height = record { peer = 0; text = text_of (say.At (Some h) (Some height)) }

-- the message is no `at` line to the node
abbrev pub IsNoAtLine : Message → Type 0
IsNoAtLine m = (h : Hash32) (height : ℕ) → m ≢ at_line h height

-- The chain is the one that the node was told last: it ends where the last `at` line among these messages
-- says, or, where there is no such line, it is the one before them.
pub data IsLastTold (before : Chain) (messages : List Message) (chain : Chain) : Type 0 where
  told : (front after : List Message) (h : Hash32) (height : ℕ)
      → messages ≡ front ++ at_line h height ∷ after → AllByRecursion IsNoAtLine after
      → tip_of chain ≡ Some h → height_of chain ≡ Some height → IsLastTold before messages chain
  untold : AllByRecursion IsNoAtLine messages → chain ≡ before → IsLastTold before messages chain
