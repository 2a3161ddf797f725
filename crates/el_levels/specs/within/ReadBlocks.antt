-- A block that is read for one of its transactions.
use Rattle.std.specs.Prelude.{◌≡◌, ℕ, List, Option, None, Some}
use Rattle.el_base.specs.declared.hash.Hash32.{Hash32}
use Rattle.el_levels.specs.declared.sought.Sought.{Sought}
use Rattle.el_levels.specs.declared.sought.Proof.{Proof}
use Rattle.el_levels.specs.Blocks.{BlockTxids, IsPlaceOf, IsProofOf}

-- the proof of the transaction that is asked for, and the tree of all txids; neither where the block lacks it
abbrev pub IsReadOf : Sought → ℕ → List Hash32 → Option (Proof × BlockTxids) → Type 0
IsReadOf wanted height ids None = IsPlaceOf wanted ids None
IsReadOf wanted height ids (Some (proof, tree)) =
    IsProofOf wanted ids (Some proof) × (tree ≡ record { height = height; txids = ids })
