-- Transactions in a block (Electrum Protocol 1.4, blockchain.transaction.get_merkle and id_from_pos), and of
-- which block a tree is kept.
use Rattle.std.specs.Prelude.{◌≡◌, ℕ, List, slice_get, Option, None, Some, IfSome, IsSomeAnd}
use Rattle.std.specs.List.{position}
use Rattle.std.specs.Str.{bytes_eq}
use Rattle.el_base.specs.declared.hash.Hash32.{Hash32}
use Rattle.el_merkle.specs.Merkle.{branch_of}
use Rattle.el_chain.specs.Chains.{Chain}
use Rattle.el_model.specs.Queries.{txids_at}
use Rattle.el_levels.specs.declared.sought.Sought.{Sought}
use Rattle.el_levels.specs.declared.sought.Sought.TheVariants as sought
use Rattle.el_levels.specs.declared.sought.Proof.{Proof}

-- where the txid stands first among these
abbrev pub place_among : Hash32 → List Hash32 → Option ℕ
place_among id ids = position (λ (other : Hash32). bytes_eq other.0 id.0) ids

-- where the transaction that is asked for stands in a block with these txids; none where the block lacks it
abbrev pub IsPlaceOf : Sought → List Hash32 → Option ℕ → Type 0
IsPlaceOf (sought.Txid id) ids place = place ≡ place_among id ids
IsPlaceOf (sought.Place pos) ids None = slice_get ids pos ≡ None
IsPlaceOf (sought.Place pos) ids (Some place) = place ≡ pos

-- its txid stands at its place among these, and its branch is that of the place
pub record Proves (proof : Proof) (ids : List Hash32) : Type 0 where
  pub txid : slice_get ids proof.pos ≡ Some proof.txid
  pub branch : proof.branch.items ≡ branch_of ids proof.pos

-- the proof is of the transaction that is asked for; there is none where the block lacks it
abbrev pub IsProofOf : Sought → List Hash32 → Option Proof → Type 0
IsProofOf wanted ids None = IsPlaceOf wanted ids None
IsProofOf wanted ids (Some proof) = IsPlaceOf wanted ids (Some proof.pos) × Proves proof ids

-- a block by its height and its txids
pub record BlockTxids : Type 0 where
  pub height : ℕ
  pub txids : List Hash32

-- what is kept is of that block of the chain
abbrev pub IsTreeOf : Chain → Option BlockTxids → Type 0
IsTreeOf chain kept = IfSome kept (λ (b : BlockTxids). txids_at chain b.height ≡ Some b.txids)

-- it is kept of the block of that height
abbrev pub IsAtHeight : ℕ → Option BlockTxids → Type 0
IsAtHeight height kept = IsSomeAnd kept (λ (b : BlockTxids). b.height ≡ height)
